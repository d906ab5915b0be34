-- Of quantities in order: the sensitivities solve their equations, and a quantity depends on what the quantities on
-- which it depends use, on itself, and on nothing else.
use Rattle.std.specs.Prelude.{◌≡◌, Bool, if◌then◌else◌, ◌||◌, List, [], Some}
use Rattle.std.specs.List.{list_any}
use Rattle.exact_law.specs.Model.{IsSameTest}
use Rattle.fixed_interval.specs.Interval.{point_span}
use Rattle.fixed_interval.specs.Rules.{one_bound}
use Rattle.fixed_interval.specs.Sums.{sum_of}
use Rattle.value_cache.specs.Quantities.{Quantity}
use Rattle.value_cache.specs.Evaluable.{AreInOrder}
use Rattle.adjoint_pass.specs.Sweep.{users, terms, is_in_cone}
use Rattle.adjoint_pass.specs.Sensitivities.{span_at, nodes_of, depends_on, cone_of, sensitivity_of}
use Rattle.adjoint_pass.proofs.Turns.{AreFalling, falling-filter, sensitivity_solves, cone_closed}
use Rattle.adjoint_pass.proofs.Order.{reversed, nodes_falling}

pub nodes_of-falling : {K : Type 0} (same : K → K → Bool) → IsSameTest same → (qs : List (Quantity K)) → AreInOrder same [] qs → AreFalling (nodes_of same qs)
nodes_of-falling same law qs o = nodes_falling same law (span_at same qs) _ (reversed same law qs o).last_first

pub cone_of-falling : {K : Type 0} (same : K → K → Bool) → IsSameTest same → (qs : List (Quantity K)) → AreInOrder same [] qs → (y : K)
    → AreFalling (cone_of same qs y)
cone_of-falling same law qs o y =
    falling-filter (λ m. is_in_cone same (nodes_of same qs) y m.key) (nodes_of same qs) (nodes_of-falling same law qs o)

pub sensitivity_of-solves : {K : Type 0} (same : K → K → Bool) → IsSameTest same → (qs : List (Quantity K)) → AreInOrder same [] qs → (y n : K)
    → sensitivity_of same qs y n
    ≡ (if same n y then Some (point_span one_bound) else sum_of (terms (sensitivity_of same qs y) n (cone_of same qs y)))
unfolding sensitivity_of
sensitivity_of-solves same law qs o y n = sensitivity_solves same law (cone_of same qs y) (cone_of-falling same law qs o y) y n

pub depends_on-closed : {K : Type 0} (same : K → K → Bool) → IsSameTest same → (qs : List (Quantity K)) → AreInOrder same [] qs → (y n : K)
    → depends_on same qs y n ≡ (same n y || list_any (λ m. depends_on same qs y m.key) (users n (nodes_of same qs)))
depends_on-closed same law qs o y n = cone_closed same law (nodes_of same qs) (nodes_of-falling same law qs o) y n
