-- The parts of which the words of a line are read. The first word that breaks a rule decides; its place is counted
-- from 1, and where the line ends too early, the place is the one after its end.
use Rattle.std.specs.Prelude.{ℕ, ◌+◌, if◌then◌else◌, List, [], ◌∷◌, Result, Ok, Err}
use Rattle.decimal18.specs.Bound.{Bound}
use Rattle.decimal18.specs.Literal.{parsed}
use Rattle.decimal18.specs.declared.literal.NumFault.{NumFault}
use Rattle.decimal18.specs.declared.literal.NumFault.TheVariants.{NotNumber as NoLiteral, NumberRange as NoBound}
use Rattle.formula_ast.specs.Names.{is_plain_name, is_name}
use Rattle.line_text.specs.Words.{Word}
use Rattle.sheet_rows.specs.declared.fault.RowFault.{RowFault}
use Rattle.sheet_rows.specs.declared.fault.RowFault.TheVariants.{Syntax, NotNumber, NumberRange}

abbrev pub Read : Type 0 → Type 0
Read A = Result A RowFault

abbrev pub then_read : {A B : Type 0} → Read A → (A → Read B) → Read B
then_read (Err fault) next = Err fault
then_read (Ok x) next = next x

-- what was read, and the words after it
pub record Parsed (A : Type 0) : Type 0 where
  pub item : A
  pub rest : List Word

-- ---- parts of one word. `end` is the length of the line
-- any word, which has this meaning
abbrev pub any_word : {A : Type 0} → (List ℕ → A) → ℕ → List Word → Read (Parsed A)
any_word meaning end [] = Err (Syntax (end + 1))
any_word meaning end (w ∷ ws) = Ok (record { item = meaning w.text; rest = ws })

-- a plain name
abbrev pub plain_word : ℕ → List Word → Read (Parsed (List ℕ))
plain_word end [] = Err (Syntax (end + 1))
plain_word end (w ∷ ws) = if is_plain_name w.text then Ok (record { item = w.text; rest = ws }) else Err (Syntax (w.place + 1))

-- a name, which may be that of a table's column
abbrev pub name_word : ℕ → List Word → Read (Parsed (List ℕ))
name_word end [] = Err (Syntax (end + 1))
name_word end (w ∷ ws) = if is_name w.text then Ok (record { item = w.text; rest = ws }) else Err (Syntax (w.place + 1))

-- a number
abbrev pub number_of : Word → Result Bound NumFault → Read Bound
number_of w (Ok b) = Ok b
number_of w (Err NoLiteral) = Err (NotNumber (w.place + 1))
number_of w (Err NoBound) = Err (NumberRange (w.place + 1))

abbrev pub number_in : Word → List Word → Result Bound NumFault → Read (Parsed Bound)
number_in w ws r = then_read (number_of w r) (λ b. Ok (record { item = b; rest = ws }))

abbrev pub number_word : ℕ → List Word → Read (Parsed Bound)
number_word end [] = Err (Syntax (end + 1))
number_word end (w ∷ ws) = number_in w ws (parsed w.text)

-- no word more
abbrev pub ended : List Word → Read (Unit {0})
ended [] = Ok tt
ended (w ∷ ws) = Err (Syntax (w.place + 1))
