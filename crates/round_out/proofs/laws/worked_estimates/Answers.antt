use Rattle.std.specs.Prelude.{refl}
use std.Quotient.{/_rec, /_rec₂}
use Rattle.exact_fraction.specs.Fraction.{◌⊕◌, ◌⊗◌, inverse, floor}
use Rattle.exact_fraction.specs.Number.{◌+ℚ◌, ◌*ℚ◌, inv_ℚ, floor_ℚ}
use Rattle.exact_fraction.specs.Powers.{power}
use Rattle.decimal18.specs.Bound.{value_of}
use Rattle.exact_law.specs.Rounding.{ten_to, at_place}
use Rattle.round_out.proofs.laws.worked_estimates.Goals as goal

pub returns : goal.returns
unfolding ◌+ℚ◌ ◌*ℚ◌ inv_ℚ floor_ℚ ◌⊕◌ ◌⊗◌ inverse floor value_of /_rec₂ /_rec power ten_to at_place
returns c = record { hundredths = refl; negative = refl; ones = refl; apart = refl; tens = refl }
