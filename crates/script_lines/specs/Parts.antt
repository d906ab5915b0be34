-- The parts of which the words after the first are read. A line is read from left to right, and the first word that
-- breaks a rule decides; its place is counted from 1. Where the line ends too early, the place is the one after its end.
use Rattle.std.specs.Prelude.{ℕ, ◌+◌, if◌then◌else◌, List, [], ◌∷◌, Result, Ok, Err}
use Rattle.formula_ast.specs.Names.{is_plain_name, is_name}
use Rattle.line_text.specs.Words.{Word}
use Rattle.row_text.specs.Parts.{Parsed}
use Rattle.answers.specs.declared.fault.LineFault.{LineFault}
use Rattle.answers.specs.declared.fault.LineFault.TheVariants.{Syntax}

abbrev pub Read : Type 0 → Type 0
Read A = Result A LineFault

abbrev pub mapped : {A B : Type 0} → (A → B) → Read A → Read B
mapped make (Ok x) = Ok (make x)
mapped make (Err fault) = Err fault

abbrev pub then_read : {A B : Type 0} → Read A → (A → Read B) → Read B
then_read (Ok x) next = next x
then_read (Err fault) next = Err fault

-- ---- `end` is the length of the line without its comment and its last blanks
-- no word more
abbrev pub alone : {A : Type 0} → A → List Word → Read A
alone x [] = Ok x
alone x (w ∷ ws) = Err (Syntax (w.place + 1))

abbrev pub no_more : List Word → Read (Unit {0})
no_more ws = alone tt ws

-- any word, which has this meaning
abbrev pub any_word : {A : Type 0} → (List ℕ → A) → ℕ → List Word → Read (Parsed A)
any_word meaning end [] = Err (Syntax (end + 1))
any_word meaning end (w ∷ ws) = Ok (record { item = meaning w.text; rest = ws })

-- a name, which may be that of a table's column
abbrev pub name_word : ℕ → List Word → Read (Parsed (List ℕ))
name_word end [] = Err (Syntax (end + 1))
name_word end (w ∷ ws) = if is_name w.text then Ok (record { item = w.text; rest = ws }) else Err (Syntax (w.place + 1))

-- a name without a point
abbrev pub plain_word : ℕ → List Word → Read (Parsed (List ℕ))
plain_word end [] = Err (Syntax (end + 1))
plain_word end (w ∷ ws) = if is_plain_name w.text then Ok (record { item = w.text; rest = ws }) else Err (Syntax (w.place + 1))

-- such a name, and no word more
abbrev pub sole_name : ℕ → List Word → Read (List ℕ)
sole_name end ws = then_read (plain_word end ws) (λ name. alone name.item name.rest)
