use Rattle.std.proofs.Common.{subst, sym}
use Rattle.exact_fraction.specs.Ratio.{IsOrderOf}
use Rattle.decimal18.specs.Bound.{value_of}
use Rattle.decimal18.specs.OrderLaws.{compare_ℚ-says, order-by_value}
use Rattle.decimal18.proofs.Canonical.{one_canonical}
use Rattle.decimal18.proofs.laws.order_is_that_of_values.Goals as goal

pub returns : goal.returns
returns c = λ a b canonical_a canonical_b.
    subst (λ r. IsOrderOf r (value_of a) (value_of b)) (sym (order-by_value a b (one_canonical a b canonical_a canonical_b)))
    (compare_ℚ-says (value_of a) (value_of b))
