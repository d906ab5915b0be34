use Rattle.std.specs.Prelude.{refl}
use std.Quotient.{/_rec₂, /_rec}
use Rattle.exact_fraction.specs.Fraction.{is_at_most, ◌⊗◌, inverse}
use Rattle.exact_fraction.specs.Number.{◌*ℚ◌, inv_ℚ, is_zero_ℚ, is_at_most_ℚ}
use Rattle.exact_fraction.specs.Powers.{power}
use Rattle.decimal18.specs.Bound.{value_of}
use Rattle.exact_law.specs.Rounding.{ten_to, scaled_square}
use Rattle.round_out.specs.Searches.{digits_of_span}
use Rattle.round_out.proofs.worked.worked_digits_of_spans.Goals as goal

pub returns : goal.returns
unfolding digits_of_span value_of ◌*ℚ◌ inv_ℚ is_zero_ℚ is_at_most_ℚ is_at_most ◌⊗◌ inverse /_rec₂ /_rec power ten_to scaled_square
returns c = record { zero = refl; thirteen = refl; hundred = refl; ten = refl; one = refl; below_hundred = refl; least = refl; greatest = refl; apart = refl; from_zero = refl; other_place = refl }
