use Rattle.std.specs.Prelude.{refl}
use std.Quotient.{/_rec, /_rec₂}
use Rattle.exact_fraction.specs.Fraction.{◌⊕◌, ◌⊗◌, negated, inverse, floor}
use Rattle.exact_fraction.specs.Number.{◌+ℚ◌, ◌*ℚ◌, neg_ℚ, inv_ℚ, is_zero_ℚ, floor_ℚ}
use Rattle.exact_fraction.proofs.Ring.{same_by_test}
use Rattle.exact_fraction.proofs.worked_values.Goals as goal

pub returns : goal.returns
unfolding ◌+ℚ◌ ◌*ℚ◌ neg_ℚ inv_ℚ is_zero_ℚ floor_ℚ ◌⊕◌ ◌⊗◌ negated inverse floor /_rec₂ /_rec
returns c = record {
  floor_of_negative = refl;
  floor_of_positive = refl;
  sum = same_by_test _ _ refl;
  quotient = same_by_test _ _ refl;
}
