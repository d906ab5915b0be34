-- What the edits of the code answer, and how it finds names by their places.
use Rattle.std.specs.Prelude.{◌≡◌, ◌≢◌, ℕ, Bool, false, ◌||◌, ◌&&◌, not, if◌then◌else◌, nat_lt, List, find, position, Option, None, Some, Result, Ok, Err}
use Rattle.std.specs.List.{list_any}
use Rattle.std.specs.Option.{option_or}
use Rattle.line_text.specs.Memory.{Gives}
use Rattle.sheet_rows.specs.Rows.{Row, Sheet, row_of, name_of, row_part, used_names, names_used, gives, is_table, correlated_names, correlates, is_correlatable}
use Rattle.sheet_edits.specs.Verdicts.{Verdict, first_correlated, unless}
use Rattle.sheet_rows.specs.Sheets.{is_named, has_quantity, is_correlatable_in, repeated_name}
use Rattle.sheet_rows.specs.declared.row.Row.{Row as CodeRow}
use Rattle.sheet_rows.specs.declared.edit_fault.EditFault.{EditFault}
use Rattle.sheet_rows.specs.declared.edit_fault.EditFault.TheVariants.{OutOfMemory, Unknown, NotEarlier, NotCorrelatable, AlreadyCorrelated}

abbrev pub code_name : CodeRow → List ℕ
code_name row = name_of (row_of row)

-- ---- answers
-- an edit's answer as a verdict: the sheet that it leaves, or its refusal
abbrev pub verdict_of : {A : Type 0} → Result A EditFault → Sheet → Verdict
verdict_of (Ok done) new = Ok new
verdict_of (Err fault) new = Err fault

-- the answer is the verdict, or out of memory
abbrev pub IsVerdict : {A : Type 0} → Result A EditFault → Sheet → Verdict → Type 0
IsVerdict result new verdict = Gives OutOfMemory (verdict_of result new) verdict

-- a check's answer: the verdict goes on with `rest`, or is the refusal, or the check found no memory
abbrev pub IsChecked : {A : Type 0} → Result A EditFault → Verdict → Verdict → Type 0
IsChecked (Ok done) rest verdict = verdict ≡ rest
IsChecked (Err fault) rest verdict = fault ≢ OutOfMemory → verdict ≡ Err fault

-- ---- places
abbrev pub place_of : Sheet → List ℕ → Option ℕ
place_of sheet n = position (is_named n) sheet.rows

abbrev pub is_before : ℕ → Option ℕ → Bool
is_before at None = false
is_before at (Some place) = nat_lt place at

-- the name is a quantity whose row stands before the place
abbrev pub stands_before : Sheet → ℕ → List ℕ → Bool
stands_before sheet at n = is_before at (place_of sheet (row_part n)) && has_quantity sheet n

-- ---- the row put last, or in the place of that of its name
-- the name is then a quantity
abbrev pub is_known_with : Sheet → Row → List ℕ → Bool
is_known_with sheet row n = if is_named (row_part n) row then gives row n else has_quantity sheet n

-- the name is then that of an input that may be correlated
abbrev pub is_correlatable_with : Sheet → Row → List ℕ → Bool
is_correlatable_with sheet row n = if is_named n row then is_correlatable row else is_correlatable_in sheet.rows n

-- the first name that the row correlates that is then no such input; else the one that it has twice
abbrev pub first_not_correlatable_with : Sheet → Row → Option (List ℕ)
first_not_correlatable_with sheet row =
    option_or (find (λ n. not (is_correlatable_with sheet row n)) (correlated_names row)) (repeated_name row)

-- ---- a row in the place of an old one, or of an old one nothing
abbrev pub is_given : Option Row → List ℕ → Bool
is_given None n = false
is_given (Some row) n = gives row n

-- the name is a quantity of the old row, and none of what stands in its place
abbrev pub loses : Row → Option Row → List ℕ → Bool
loses old new n = gives old n && not (is_given new n)

-- the other row then uses a name that is no quantity, or correlates what may not be correlated
abbrev pub is_left_by : Row → Row → Row → Bool
is_left_by old row other =
    not (is_named (name_of row) other)
    && (list_any (loses old (Some row)) (used_names other) || (not (is_correlatable row) && correlates other (name_of row)))

-- the old row is no table, and its name is a quantity, and that of an input that may be correlated, where it was one
abbrev pub loses_nothing : Row → Row → Bool
loses_nothing old row =
    not (is_table old)
    && ((gives row (name_of old) || not (gives old (name_of old))) && (is_correlatable row || not (is_correlatable old)))

-- the refusals by the names of the row, which is put at the place
abbrev pub unless_names_fail : Sheet → Row → ℕ → Verdict → Verdict
unless_names_fail sheet row at verdict =
    unless (find (λ n. not (is_known_with sheet row n)) (names_used row)) Unknown
    (unless (find (λ n. not (stands_before sheet at n)) (names_used row)) NotEarlier
    (unless (first_not_correlatable_with sheet row) NotCorrelatable (unless (first_correlated sheet row) AlreadyCorrelated verdict)))
