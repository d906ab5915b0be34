-- What the program is asked to do by its words, of which the first is its own name: `run`; or `make`, followed by the
-- options `--rows` and `--start`, each once, in either order, as two words `--NAME VALUE` or as one, `--NAME=VALUE`. This is
-- our own rule.
use Rattle.std.specs.Prelude.{ℕ, ◌≤◌, ◌<◌, ◌^◌, List, [], ◌∷◌, length, take, drop, codes, if◌then◌else◌, Option, Some, None, option_map, option_and_then, bytes_eq}
use Rattle.program_words.specs.declared.asked.Asked.{Asked}
use Rattle.program_words.specs.declared.asked.Asked.TheVariants.{Run, Make}
use Rattle.program_words.specs.Numbers.{number_of}

-- what an option says, and the words after it
pub record Taken : Type 0 where
  pub value : List ℕ
  pub rest : List (List ℕ)

-- the value of an option that is the word before
abbrev pub next_word : List (List ℕ) → Option Taken
next_word [] = None
next_word (value ∷ rest) = Some (record { value = value; rest = rest })

-- the value of an option that is one word
abbrev pub same_word : List (List ℕ) → List ℕ → Taken
same_word rest value = record { value = value; rest = rest }

-- what follows `head` in a word that begins with it
abbrev pub value_after : List ℕ → List ℕ → Option (List ℕ)
value_after head word = if bytes_eq (take (length head) word) head then Some (drop (length head) word) else None

-- the option that stands first, where it is the word `name`, followed by its value, or a word that begins with `head`
abbrev pub option_taken : List ℕ → List ℕ → List (List ℕ) → Option Taken
option_taken name head [] = None
option_taken name head (word ∷ words) =
    if bytes_eq word name then next_word words
    else option_map (same_word words) (value_after head word)

abbrev pub rows_taken : List (List ℕ) → Option Taken
rows_taken = option_taken (codes "--rows") (codes "--rows=")

abbrev pub start_taken : List (List ℕ) → Option Taken
start_taken = option_taken (codes "--start") (codes "--start=")

-- what the two options say
pub record Options : Type 0 where
  pub rows : List ℕ
  pub start : List ℕ

-- the options, where no word is left
abbrev pub at_end : Options → List (List ℕ) → Option Options
at_end options [] = Some options
at_end options (word ∷ words) = None

abbrev pub rows_then_start : List (List ℕ) → Option Options
rows_then_start words = option_and_then (λ rows.
    option_and_then (λ start. at_end (record { rows = rows.value; start = start.value }) start.rest) (start_taken rows.rest)) (rows_taken words)

abbrev pub start_then_rows : List (List ℕ) → Option Options
start_then_rows words = option_and_then (λ start.
    option_and_then (λ rows. at_end (record { rows = rows.value; start = start.value }) rows.rest) (rows_taken start.rest)) (start_taken words)

-- the first of two that is there
abbrev pub or_else : {A : Type 0} → Option A → Option A → Option A
or_else (Some x) other = Some x
or_else None other = other

-- the words are the two options, in either order, and nothing else
abbrev pub options_of : List (List ℕ) → Option Options
options_of words = or_else (rows_then_start words) (start_then_rows words)

-- from 2 to 4,096 rows, in at most four digits, and a start of at most 2^31 - 1, in at most ten
abbrev pub made_of : Options → Option Asked
made_of options = option_and_then (λ rows. option_map (λ start. Make rows start) (number_of 10 0 2147483647 options.start))
    (number_of 4 2 4096 options.rows)

-- what the words after the program's name ask for
abbrev pub asked_by : List ℕ → List (List ℕ) → Option Asked
asked_by word [] = if bytes_eq word (codes "run") then Some Run else None
asked_by word (option ∷ options) = if bytes_eq word (codes "make") then option_and_then made_of (options_of (option ∷ options)) else None

abbrev pub asked_of : List (List ℕ) → Option Asked
asked_of (program ∷ word ∷ options) = asked_by word options
asked_of words = None

-- the numbers of a script that is asked for are in their ranges
abbrev pub IsInRange : Asked → Type 0
IsInRange Run = Unit {0}
IsInRange (Make rows start) = (2 ≤ rows) × (rows ≤ 4096) × (start < 2 ^ 31)
