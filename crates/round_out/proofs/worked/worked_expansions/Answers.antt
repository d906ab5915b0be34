use Rattle.std.specs.Prelude.{refl}
use std.Quotient.{/_rec₂, /_rec}
use Rattle.exact_fraction.specs.Fraction as fraction
use Rattle.exact_fraction.specs.Fraction.{floor, is_at_most, ◌⊕◌, ◌⊗◌, inverse}
use Rattle.exact_fraction.specs.Number.{min_ℚ, max_ℚ, neg_ℚ, ◌+ℚ◌, ◌*ℚ◌, inv_ℚ, is_zero_ℚ, is_at_most_ℚ, floor_ℚ}
use Rattle.exact_fraction.specs.Powers.{power}
use Rattle.decimal18.specs.Bound.{value_of}
use Rattle.decimal18.specs.Down.{up, down, cut_off, is_in_range}
use Rattle.fixed_interval.specs.Interval.{outward}
use Rattle.fixed_interval.specs.Rules.{holds_zero}
use Rattle.exact_law.specs.Rounding.{ten_to, scaled_square, at_place}
use Rattle.round_out.specs.Searches.{digits_of_span}
use Rattle.round_out.specs.Reports.{expanded_of, reported_of}
use Rattle.round_out.proofs.worked.worked_expansions.Goals as goal

pub returns : goal.returns
unfolding expanded_of holds_zero outward min_ℚ max_ℚ up down cut_off is_in_range neg_ℚ fraction.negated reported_of digits_of_span value_of ◌+ℚ◌ ◌*ℚ◌ inv_ℚ is_zero_ℚ is_at_most_ℚ floor_ℚ floor is_at_most ◌⊕◌ ◌⊗◌ inverse /_rec₂ /_rec power ten_to scaled_square at_place
returns c = record { ohms = refl; eleven_readings = refl; exact = refl; no_factor = refl; square = refl; product = refl }
