-- The words as the kit's library `clap` is told of them, and what is made of what it finds. It takes more than what is
-- asked for: as a word `--` after `run`.
use Rattle.std.specs.Prelude.{ℕ, ◌&&◌, Bool, true, List, [], ◌∷◌, codes, if◌then◌else◌, Option, Some, None, option_map, option_and_then, bytes_eq}
use Rattle.clap.specs.Words.{App, Row, Rule, Shape, Text, first_of, new_app, new_rule, with_rule, with_subcommand}
use Rattle.program_words.specs.declared.asked.Asked.{Asked}
use Rattle.program_words.specs.declared.asked.Asked.TheVariants.{Run}
use Rattle.program_words.specs.Words.{Options, made_of, options_of}

-- an option of this name, which has to be there
abbrev pub required : Text → Rule
required name = record (new_rule name) { long = Some name; required = true }

abbrev pub run : App
run = new_app (codes "run")

abbrev pub make : App
make = with_rule (with_rule (new_app (codes "make")) (required (codes "rows"))) (required (codes "start"))

-- no form of help or version, and one of the two subcommands
abbrev pub only_subcommands : Shape → Shape
only_subcommands shape = record shape {
  disable_help_flag = true;
  disable_help_subcommand = true;
  disable_version_flag = true;
  subcommand_required = true;
}

abbrev pub gumtree : App
gumtree = with_subcommand (with_subcommand (record (new_app (codes "gumtree")) { top = only_subcommands (new_app (codes "gumtree")).top }) run.top) make.top

-- the values of the options in the matches of a subcommand
abbrev pub options_in : List Row → Option Options
options_in rows = option_and_then (λ n. option_map (λ s. record { rows = n; start = s }) (first_of (codes "start") rows)) (first_of (codes "rows") rows)

abbrev pub options_found : Option (Text × List Row) → Option Options
options_found found = option_and_then (λ p. options_in p.1) found

abbrev pub are_same : Options → Options → Bool
are_same a b = bytes_eq a.rows b.rows && bytes_eq a.start b.start

-- options that were found, where the words spell these and nothing else
abbrev pub confirmed : Option Options → Option Options → Option Asked
confirmed (Some found) (Some spelt) = if are_same found spelt then made_of found else None
confirmed found spelt = None

-- the words, with the options that were found
abbrev pub confirmed_by : Option Options → List ℕ → List (List ℕ) → Option Asked
confirmed_by found word [] = if bytes_eq word (codes "run") then Some Run else None
confirmed_by found word (option ∷ options) = if bytes_eq word (codes "make") then confirmed found (options_of (option ∷ options)) else None

abbrev pub confirmed_of : Option Options → List (List ℕ) → Option Asked
confirmed_of found (program ∷ word ∷ options) = confirmed_by found word options
confirmed_of found words = None
