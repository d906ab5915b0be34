use Rattle.exact_fraction.specs.NumberLaws.{≤ℚ_refl, ≤ℚ_trans, ≤ℚ_antisym, ≤ℚ_total}
use Rattle.exact_fraction.proofs.order_is_total.Goals as goal

pub returns : goal.returns
returns c = record {
  reflexive = ≤ℚ_refl;
  transitive = ≤ℚ_trans;
  antisymmetric = ≤ℚ_antisym;
  total = ≤ℚ_total;
}
