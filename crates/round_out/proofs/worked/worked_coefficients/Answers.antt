use Rattle.std.specs.Prelude.{refl}
use std.Quotient.{/_rec₂, /_rec}
use Rattle.exact_fraction.specs.Fraction as fraction
use Rattle.exact_fraction.specs.Fraction.{floor, is_at_most, ◌⊗◌, inverse}
use Rattle.exact_fraction.specs.Number.{min_ℚ, max_ℚ, ◌*ℚ◌, inv_ℚ, neg_ℚ, is_zero_ℚ, is_at_most_ℚ, floor_ℚ}
use Rattle.decimal18.specs.Bound.{value_of}
use Rattle.decimal18.specs.Down.{up, down, cut_off, is_in_range}
use Rattle.fixed_interval.specs.Interval.{outward}
use Rattle.fixed_interval.specs.Extremes.{lesser, greater}
use Rattle.round_out.specs.Searches.{correlation_of}
use Rattle.round_out.proofs.worked.worked_coefficients.Goals as goal

pub returns : goal.returns
unfolding correlation_of outward min_ℚ max_ℚ value_of up down cut_off is_in_range ◌*ℚ◌ inv_ℚ neg_ℚ is_zero_ℚ is_at_most_ℚ floor_ℚ floor is_at_most ◌⊗◌ inverse fraction.negated lesser greater /_rec₂ /_rec
returns c = record { plus_one = refl; minus_one = refl; half = refl; tie = refl; small = refl; at_most_one = refl; no_sign = refl; apart = refl; first_from_zero = refl; second_from_zero = refl; first_zero = refl; second_zero = refl; overflow = refl }
