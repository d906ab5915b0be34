use Rattle.std.specs.Prelude.{refl}
use Rattle.std.proofs.Common.{arith}
use Rattle.std.proofs.lemmas.Int.{ints}
use std.Quotient.{/_rec, /_rec₂}
use Rattle.exact_fraction.specs.Fraction.{◌⊕◌, ◌⊗◌, negated, inverse, is_at_most, floor}
use Rattle.exact_fraction.specs.Number.{◌+ℚ◌, ◌*ℚ◌, neg_ℚ, inv_ℚ, is_zero_ℚ, is_at_most_ℚ, floor_ℚ}
use Rattle.exact_fraction.specs.Powers.{power}
use Rattle.exact_law.specs.Rounding.{ten_to, at_place, scaled_square, AreDigitsOf}
use Rattle.exact_law.proofs.worked.worked_roundings.Goals as goal

pub returns : goal.returns
unfolding ◌+ℚ◌ ◌*ℚ◌ neg_ℚ inv_ℚ is_zero_ℚ is_at_most_ℚ floor_ℚ ◌⊕◌ ◌⊗◌ negated inverse is_at_most floor /_rec₂ /_rec power ten_to at_place scaled_square AreDigitsOf
returns c = record {
  hundredths_of_12_345 = refl;
  ones = refl;
  tens = refl;
  root_of_12_5 = record {
    at_least_10 = omega arith;
    at_most_99 = omega arith;
    low = record { holds = refl };
    high = record { not_above = refl };
  };
  root_of_9_95 = record {
    at_least_10 = omega arith;
    at_most_99 = omega arith;
    low = record { holds = refl };
    high = record { not_above = refl };
  };
  root_below_9_95 = record {
    at_least_10 = omega arith;
    at_most_99 = omega arith;
    low = record { holds = refl };
    high = record { not_above = refl };
  };
  no_root = refl;
  half = record { low = record { holds = refl }; high = record { not_above = refl } };
  root_of_0_505 = record { low = record { holds = refl }; high = record { not_above = refl } };
  negative_half = record {
    first = record { not_above = refl };
    second = record { not_above = refl };
    magnitude = record { low = record { holds = refl }; high = record { not_above = refl } };
    positive = λ h. absurd (omega (arith, ints));
    negative = λ h. record { holds = refl };
  };
}
