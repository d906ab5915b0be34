-- What a line gives as a row, other than a table: the line without its comment and its last blanks. It is read from
-- left to right, and the first word or token that breaks a rule decides; its place is counted from 1. Where the line
-- ends too early, the place is the one after its end.
use Rattle.std.specs.Prelude.{ℕ, ◌+◌, ◌==◌, ◌||◌, Bool, false, not, if◌then◌else◌, List, [], ◌∷◌, length, take, drop, Result, Ok, Err, bytes_eq, codes}
use Rattle.std.specs.List.{prefix_len}
use Rattle.line_text.specs.Characters.{equals_sign}
use Rattle.decimal18.specs.declared.literal.NumFault.TheVariants.{NotNumber as NoLiteral, NumberRange as NoBound}
use Rattle.formula_ast.specs.Names.{is_plain_name}
use Rattle.formula_ast.specs.Trees.{Tree}
use Rattle.formula_ast.specs.Reading.{reading_of}
use Rattle.formula_ast.specs.declared.fault.FormulaFault.{FormulaFault}
use Rattle.formula_ast.specs.declared.fault.FormulaFault.TheVariants.{Syntax as FormulaSyntax, UnknownFunction as FormulaFunction, Number as FormulaNumber, BadPower as FormulaPower, TooDeep as FormulaDeep, TooMany as FormulaMany, OutOfMemory as FormulaMemory}
use Rattle.line_text.specs.Blanks.{is_blank}
use Rattle.line_text.specs.Words.{Word, words_from, written_part}
use Rattle.sheet_rows.specs.Rows.{Row, Formula}
use Rattle.row_text.specs.Parts.{Read, then_read}
use Rattle.row_text.specs.Givens.{given_of}
use Rattle.row_text.specs.Readings.{readings_of_words}
use Rattle.row_text.specs.Correlations.{corr_of}
use Rattle.row_text.specs.Tolerances.{tolerance_of}
use Rattle.sheet_rows.specs.declared.fault.RowFault.{RowFault}
use Rattle.sheet_rows.specs.declared.fault.RowFault.TheVariants.{Syntax, NotNumber, NumberRange, UnknownFunction, BadPower, TooDeep, TooManyNodes, OutOfMemory}

-- ---- formulas: the blanks round `=` may be missing
-- what was read, and the place after it
pub record ParsedTo (A : Type 0) : Type 0 where
  pub item : A
  pub at : ℕ

-- the place after the blanks that stand at the place `at`
abbrev pub past_blanks : List ℕ → ℕ → ℕ
past_blanks line at = at + prefix_len is_blank (drop at line)

-- a byte that is neither a blank nor `=`
abbrev pub is_in_name : ℕ → Bool
is_in_name byte = not (is_blank byte || byte == equals_sign)

-- the bytes at the start that are neither blank nor `=`
abbrev pub leading_name : List ℕ → List ℕ
leading_name text = take (prefix_len is_in_name text) text

-- a plain name at the place `at`
abbrev pub name_in : ℕ → List ℕ → Read (ParsedTo (List ℕ))
name_in at name = if is_plain_name name then Ok (record { item = name; at = at + length name }) else Err (Syntax (at + 1))

abbrev pub name_at : List ℕ → ℕ → Read (ParsedTo (List ℕ))
name_at line at = name_in at (leading_name (drop at line))

abbrev pub begins_equals : List ℕ → Bool
begins_equals [] = false
begins_equals (byte ∷ bytes) = byte == equals_sign

-- the place after the `=` at the place `at`
abbrev pub equals_at : List ℕ → ℕ → Read ℕ
equals_at line at = if begins_equals (drop at line) then Ok (at + 1) else Err (Syntax (at + 1))

-- the place of a token in the line, where the formula begins at the place `at`
abbrev pub formula_fault : ℕ → FormulaFault → RowFault
formula_fault at (FormulaSyntax k) = Syntax (at + k + 1)
formula_fault at (FormulaFunction k) = UnknownFunction (at + k + 1)
formula_fault at (FormulaNumber NoLiteral k) = NotNumber (at + k + 1)
formula_fault at (FormulaNumber NoBound k) = NumberRange (at + k + 1)
formula_fault at (FormulaPower k) = BadPower (at + k + 1)
formula_fault at (FormulaDeep k) = TooDeep (at + k + 1)
formula_fault at (FormulaMany k) = TooManyNodes (at + k + 1)
formula_fault at FormulaMemory = OutOfMemory

abbrev pub formula_in : ℕ → Result Tree FormulaFault → Read Tree
formula_in at (Ok f) = Ok f
formula_in at (Err fault) = Err (formula_fault at fault)

-- the formula after the place `at`
abbrev pub formula_at : List ℕ → ℕ → Read Tree
formula_at line at = formula_in at (reading_of (drop at line))

-- `NAME = FORMULA`, after the place `at`
abbrev pub let_of : List ℕ → ℕ → Read Row
let_of line at =
    then_read (name_at line (past_blanks line at)) (λ name.
    then_read (equals_at line (past_blanks line name.at)) (λ start.
    then_read (formula_at line start) (λ f. Ok (Formula name.item f))))

-- ---- rows
-- the row that these words of the line give
abbrev pub row_at : List ℕ → List Word → Read Row
row_at line [] = Err (Syntax (length line + 1))
row_at line (w ∷ ws) =
    if bytes_eq w.text (codes "given") then given_of (length line) ws else
    if bytes_eq w.text (codes "readings") then readings_of_words (length line) ws else
    if bytes_eq w.text (codes "corr") then corr_of (length line) ws else
    if bytes_eq w.text (codes "let") then let_of line (w.place + length w.text) else
    if bytes_eq w.text (codes "tol") then tolerance_of (length line) ws else Err (Syntax (w.place + 1))

-- whether these words are to give a row by readings or a formula row: no other row's reading takes memory
abbrev pub take_memory : List Word → Bool
take_memory [] = false
take_memory (w ∷ ws) = bytes_eq w.text (codes "readings") || bytes_eq w.text (codes "let")

abbrev pub row_from : List ℕ → ℕ → Read Row
row_from line from = row_at line (words_from line from)

-- the row that the line gives from the byte `from` on
unfoldable pub row_read : List ℕ → ℕ → Read Row
row_read line from = row_from (written_part line) from
