use Rattle.std.specs.Prelude.{refl}
use std.Quotient.{/_rec, /_rec₂}
use Rattle.exact_fraction.specs.Fraction.{◌⊕◌, ◌⊗◌, negated, inverse}
use Rattle.exact_fraction.specs.Number.{◌+ℚ◌, ◌*ℚ◌, neg_ℚ, inv_ℚ, is_zero_ℚ}
use Rattle.exact_fraction.proofs.Ring.{same_by_test}
use Rattle.decimal18.specs.Bound.{value_of}
use Rattle.type_b.proofs.laws.worked_deviations.Goals as goal

pub returns : goal.returns
unfolding ◌+ℚ◌ ◌*ℚ◌ neg_ℚ inv_ℚ is_zero_ℚ ◌⊕◌ ◌⊗◌ negated inverse value_of /_rec₂ /_rec
returns c = record {
  number = λ u. refl;
  quotient = λ expanded k. refl;
  level = λ half level. refl;
  standard = same_by_test _ _ refl;
  expanded = same_by_test _ _ refl;
  normal = same_by_test _ _ refl;
}
