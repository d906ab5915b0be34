use Rattle.std.specs.Prelude.{refl}
use std.Quotient.{/_rec₂, /_rec}
use Rattle.exact_fraction.specs.Fraction.{is_at_most}
use Rattle.exact_fraction.specs.Number.{is_at_most_ℚ}
use Rattle.decimal18.specs.Bound.{value_of}
use Rattle.round_out.proofs.worked.worked_signs.Goals as goal

pub returns : goal.returns
unfolding value_of is_at_most_ℚ is_at_most /_rec₂ /_rec
returns c = record { plus = refl; minus = refl; unsettled = refl; no_hundredths = refl }
