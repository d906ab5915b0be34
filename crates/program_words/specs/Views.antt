-- What the code's own records stand for, which lend their texts from the words.
use Rattle.std.specs.Prelude.{List, ℕ, map, String, string_bytes}
use Rattle.std.specs.declared.alloc.Global.{Global}
use Rattle.program_words.specs.declared.options.Taken.{Taken as TakenFromWords}
use Rattle.program_words.specs.declared.options.Options.{Options as OptionsFromWords}
use Rattle.program_words.specs.Words.{Taken, Options}

abbrev pub texts_of : List (String Global) → List (List ℕ)
texts_of words = map string_bytes words

abbrev pub as_taken : TakenFromWords → Taken
as_taken t = record { value = t.value.now; rest = texts_of t.rest.now }

abbrev pub as_options : OptionsFromWords → Options
as_options o = record { rows = o.rows.now; start = o.start.now }
