use Rattle.std.specs.Prelude.{refl, pos, negsuc}
use Rattle.std.proofs.Common.{arith}
use std.Quotient.{/_rec, /_rec₂}
use Rattle.exact_fraction.specs.Fraction.{◌⊗◌, inverse, is_at_most}
use Rattle.exact_fraction.specs.Number.{◌*ℚ◌, inv_ℚ, is_at_most_ℚ}
use Rattle.exact_fraction.specs.Powers.{power}
use Rattle.decimal18.specs.Bound.{scaled, value_of}
use Rattle.decimal18.proofs.Values.{value-whole}
use Rattle.exact_law.specs.Rounding.{ten_to, scaled_square, AreDigitsOf, Zero as ExactZero, Two}
use Rattle.round_out.proofs.Ends.{apart}
use Rattle.round_out.proofs.laws.worked_digits.Goals as goal

pub returns : goal.returns
unfolding ◌*ℚ◌ inv_ℚ is_at_most_ℚ ◌⊗◌ inverse is_at_most value_of /_rec₂ /_rec power ten_to scaled_square AreDigitsOf
returns c = record {
  zero = record { low = value-whole (pos 0); high = value-whole (pos 0) };
  thirteen = record {
    low = record { at_least_10 = omega arith; at_most_99 = omega arith; low = record { holds = refl }; high = record { not_above = refl } };
    high = record { at_least_10 = omega arith; at_most_99 = omega arith; low = record { holds = refl }; high = record { not_above = refl } };
  };
  ten = record {
    low = record { at_least_10 = omega arith; at_most_99 = omega arith; low = record { holds = refl }; high = record { not_above = refl } };
    high = record { at_least_10 = omega arith; at_most_99 = omega arith; low = record { holds = refl }; high = record { not_above = refl } };
  };
  below_ten = record {
    low = record { at_least_10 = omega arith; at_most_99 = omega arith; low = record { holds = refl }; high = record { not_above = refl } };
    high = record { at_least_10 = omega arith; at_most_99 = omega arith; low = record { holds = refl }; high = record { not_above = refl } };
  };
  apart = apart (record { lo = scaled (pos 15376) 2; hi = scaled (pos 15625) 2 }) (Two 12 (pos 0)) (Two 13 (pos 0))
      (record { at_least_10 = omega arith; at_most_99 = omega arith; low = record { holds = refl }; high = record { not_above = refl } })
      (record { at_least_10 = omega arith; at_most_99 = omega arith; low = record { holds = refl }; high = record { not_above = refl } })
      (λ h. cc);
  from_zero = apart (record { lo = scaled (pos 0) 0; hi = scaled (pos 1) 0 }) ExactZero (Two 10 (negsuc 0))
      (value-whole (pos 0))
      (record { at_least_10 = omega arith; at_most_99 = omega arith; low = record { holds = refl }; high = record { not_above = refl } })
      (λ h. cc);
}
