-- The verdict on an edit of a sheet: the edited sheet, or the first refusal that applies.
use Rattle.std.specs.Prelude.{◌≡◌, ◌&&◌, ℕ, Bool, not, nat_le, if◌then◌else◌, List, [], ◌∷◌, ◌++◌, length, find, Option, None, Some, Result, Ok, Err}
use Rattle.std.specs.List.{list_any}
use Rattle.std.specs.Option.{option_map, option_or}
use Rattle.sheet_rows.specs.Rows.{Row, Sheet, name_of, used_names, gives, correlated_names}
use Rattle.sheet_rows.specs.Sheets.{is_named, has_row, is_quantity_in, has_quantity, is_correlatable_in, repeated_name, are_correlatable, is_correlated_apart, row_limit, are_known, IsWellFormed}
use Rattle.sheet_rows.specs.declared.edit_fault.EditFault.{EditFault}
use Rattle.sheet_rows.specs.declared.edit_fault.EditFault.TheVariants.{RowsFull, Duplicate, Unknown, NotEarlier, NotCorrelatable, AlreadyCorrelated, InUse}

-- the edited sheet is this one, and well formed
pub record IsAccepted (edited sheet : Sheet) : Type 0 where
  pub is : edited ≡ sheet
  pub well_formed : IsWellFormed edited

-- ---- edited sheets
-- the row is put last
abbrev pub added : Sheet → Row → Sheet
added sheet row = record sheet { rows = sheet.rows ++ row ∷ [] }

-- the row stands in the place of that of its name
abbrev pub rows_with : Row → List Row → List Row
rows_with row [] = []
rows_with row (other ∷ rows) = if is_named (name_of row) other then row ∷ rows else other ∷ rows_with row rows

abbrev pub set_row : Row → Sheet → Sheet
set_row row sheet = record sheet { rows = rows_with row sheet.rows }

-- the row of this name is taken out
abbrev pub rows_without : List ℕ → List Row → List Row
rows_without n [] = []
rows_without n (row ∷ rows) = if is_named n row then rows else row ∷ rows_without n rows

abbrev pub removed : List ℕ → Sheet → Sheet
removed n sheet = record sheet { rows = rows_without n sheet.rows }

-- the rows before that of this name
abbrev pub rows_before : List ℕ → List Row → List Row
rows_before n [] = []
rows_before n (row ∷ rows) = if is_named n row then [] else row ∷ rows_before n rows

-- ---- verdicts
abbrev pub Verdict : Type 0
Verdict = Result Sheet EditFault

-- a refusal with this name, where there is one
abbrev pub unless : Option (List ℕ) → (List ℕ → EditFault) → Verdict → Verdict
unless None refusal verdict = verdict
unless (Some n) refusal verdict = Err (refusal n)

-- the first name that the row uses that is no quantity of the edited sheet
abbrev pub first_unknown : Sheet → Row → Option (List ℕ)
first_unknown edited row = find (λ n. not (has_quantity edited n)) (used_names row)

-- the first name that the row uses whose row does not stand before it in the edited sheet
abbrev pub first_not_earlier : Sheet → Row → Option (List ℕ)
first_not_earlier edited row = find (λ n. not (is_quantity_in (rows_before (name_of row) edited.rows) n)) (used_names row)

-- the first name that the row correlates whose row may not be correlated; else the one that it has twice
abbrev pub first_not_correlatable : Sheet → Row → Option (List ℕ)
first_not_correlatable edited row =
    option_or (find (λ n. not (is_correlatable_in edited.rows n)) (correlated_names row)) (repeated_name row)

-- the first name that the row correlates that another correlation has
abbrev pub first_correlated : Sheet → Row → Option (List ℕ)
first_correlated edited row = find (is_correlated_apart edited.rows row) (correlated_names row)

abbrev pub unless_uses_fail : Sheet → Row → Verdict → Verdict
unless_uses_fail edited row verdict =
    unless (first_unknown edited row) Unknown
    (unless (first_not_earlier edited row) NotEarlier
    (unless (first_not_correlatable edited row) NotCorrelatable
    (unless (first_correlated edited row) AlreadyCorrelated verdict)))

-- on adding a row
abbrev pub verdict_add : Sheet → Row → Verdict
verdict_add sheet row =
    if nat_le row_limit (length sheet.rows) then Err RowsFull
    else (if has_row sheet (name_of row) then Err (Duplicate (name_of row))
    else unless_uses_fail (added sheet row) row (Ok (added sheet row)))

-- another row than `row` uses a name that is no quantity of the edited sheet, or correlates what may not be correlated
abbrev pub is_left_without : Sheet → Row → Row → Bool
is_left_without edited row other =
    not (is_named (name_of row) other) && not (are_known edited.rows other && are_correlatable edited.rows other)

abbrev pub unless_left : Sheet → Row → Verdict
unless_left edited row = unless (option_map name_of (find (is_left_without edited row) edited.rows)) InUse (Ok edited)

abbrev pub verdict_on_set : Sheet → Row → Verdict
verdict_on_set edited row = unless_uses_fail edited row (unless_left edited row)

-- on setting a row
abbrev pub verdict_set : Sheet → Row → Verdict
verdict_set sheet row =
    if has_row sheet (name_of row) then verdict_on_set (set_row row sheet) row else Err (Unknown (name_of row))

-- the other row uses a quantity of the row
abbrev pub is_user_of : Row → Row → Bool
is_user_of row other = list_any (gives row) (used_names other)

abbrev pub verdict_on_removal : Sheet → List ℕ → Option Row → Verdict
verdict_on_removal sheet n None = Err (Unknown n)
verdict_on_removal sheet n (Some row) = unless (option_map name_of (find (is_user_of row) sheet.rows)) InUse (Ok (removed n sheet))

-- on removing the row of this name
abbrev pub verdict_remove : Sheet → List ℕ → Verdict
verdict_remove sheet n = verdict_on_removal sheet n (find (is_named n) sheet.rows)
