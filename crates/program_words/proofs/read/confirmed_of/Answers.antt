use Rattle.std.proofs.Common.{◌≡◌, ◌<◌, List, [], ◌∷◌, length, Option, None, refl, arith, Global}
use Rattle.std.specs.Prelude.{String}
use Rattle.program_words.specs.Words.{Options}
use Rattle.program_words.specs.Grammar.{confirmed_of}
use Rattle.program_words.specs.Views.{texts_of}
use Rattle.program_words.proofs.read.confirmed_of.Goals as goal

-- fewer than two words ask for nothing
few : (found : Option Options) (words : List (String Global)) → length words < 2 → None ≡ confirmed_of found (texts_of words)
few found [] h = refl
few found (program ∷ []) h = refl
few found (program ∷ word ∷ words) h = absurd (omega arith)

pub returns-in_default : goal.returns-in_default
returns-in_default c = few _ c.args.words.now c.in_default.len_below
