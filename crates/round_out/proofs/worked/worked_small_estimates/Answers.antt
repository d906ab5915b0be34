use Rattle.std.specs.Prelude.{refl}
use std.Quotient.{/_rec₂, /_rec}
use Rattle.exact_fraction.specs.Fraction.{floor, is_at_most, ◌⊕◌, ◌⊗◌, inverse}
use Rattle.exact_fraction.specs.Number.{◌+ℚ◌, ◌*ℚ◌, inv_ℚ, is_zero_ℚ, is_at_most_ℚ, floor_ℚ}
use Rattle.exact_fraction.specs.Powers.{power}
use Rattle.decimal18.specs.Bound.{value_of}
use Rattle.exact_law.specs.Rounding.{ten_to, scaled_square, at_place}
use Rattle.round_out.specs.Searches.{digits_of_span}
use Rattle.round_out.specs.Reports.{reported_of}
use Rattle.round_out.proofs.worked.worked_small_estimates.Goals as goal

pub returns : goal.returns
unfolding reported_of digits_of_span value_of ◌+ℚ◌ ◌*ℚ◌ inv_ℚ is_zero_ℚ is_at_most_ℚ floor_ℚ floor is_at_most ◌⊕◌ ◌⊗◌ inverse /_rec₂ /_rec power ten_to scaled_square at_place
returns c = record { less = refl; tie = refl; negative_tie = refl; negative = refl; next_tie = refl }
