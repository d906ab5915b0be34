use Rattle.std.specs.Prelude.{refl}
use Rattle.std.specs.Fmt.{digits}
use Rattle.round_out.proofs.laws.worked_texts.Goals as goal

pub returns : goal.returns
unfolding digits
returns c = record { hundredths = refl; small = refl; no_hundredths = refl; ones = refl; hundreds = refl; no_hundreds = refl }
