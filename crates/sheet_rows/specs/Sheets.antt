-- When a sheet is well formed, and when it stands: what holds of each sheet that edits make.
use Rattle.std.specs.Prelude.{◌≡◌, ◌≤◌, ◌&&◌, ℕ, Bool, true, not, if◌then◌else◌, List, [], ◌∷◌, ◌++◌, length, Option, None, Some, is_some, option_and_then, find, bytes_eq}
use Rattle.std.specs.List.{list_any, list_all}
use Rattle.guard_band.specs.declared.rule.Rule.{Rule}
use Rattle.sheet_rows.specs.Rows.{Row, Sheet, Given, Readings, Joint, Correlation, Formula, Tolerance, name_of, used_names, quantities_of, gives_input, correlated_names, correlates, is_correlatable, row_rule}
use Rattle.sheet_rows.specs.Regular.{AreRegular}

-- ---- names
abbrev pub is_named : List ℕ → Row → Bool
is_named n row = bytes_eq n (name_of row)

-- the name is that of one of the rows
abbrev pub is_among : List Row → List ℕ → Bool
is_among rows n = list_any (is_named n) rows

abbrev pub has_row : Sheet → List ℕ → Bool
has_row sheet n = is_among sheet.rows n

-- ---- quantities
-- those of the rows, in the order of the rows
abbrev pub quantities_in : List Row → List (List ℕ)
quantities_in [] = []
quantities_in (row ∷ rows) = quantities_of row ++ quantities_in rows

-- the name is a quantity of the rows
abbrev pub is_quantity_in : List Row → List ℕ → Bool
is_quantity_in rows n = list_any (bytes_eq n) (quantities_in rows)

abbrev pub has_quantity : Sheet → List ℕ → Bool
has_quantity sheet n = is_quantity_in sheet.rows n

-- the name is an input of the rows
abbrev pub is_input_in : List Row → List ℕ → Bool
is_input_in rows n = list_any (λ row. gives_input row n) rows

abbrev pub has_input : Sheet → List ℕ → Bool
has_input sheet n = is_input_in sheet.rows n

-- ---- correlations
-- the name is that of an input of the rows that may be correlated
abbrev pub is_correlatable_in : List Row → List ℕ → Bool
is_correlatable_in rows n = list_any (λ row. is_named n row && is_correlatable row) rows

-- the name that a correlation has twice
abbrev pub repeated_name : Row → Option (List ℕ)
repeated_name (Given name estimate shape dof) = None
repeated_name (Readings name table) = None
repeated_name (Joint name columns table) = None
repeated_name (Correlation name first second coefficient) = if bytes_eq first second then Some second else None
repeated_name (Formula name formula) = None
repeated_name (Tolerance name rule) = None

-- the inputs that the row correlates may be correlated, and are two
abbrev pub are_correlatable : List Row → Row → Bool
are_correlatable rows row = list_all (is_correlatable_in rows) (correlated_names row) && not (is_some (repeated_name row))

-- another of the rows is a correlation with this name
abbrev pub is_correlated_apart : List Row → Row → List ℕ → Bool
is_correlated_apart rows row n = list_any (λ other. not (is_named (name_of row) other) && correlates other n) rows

-- no name that the row correlates is in another correlation
abbrev pub are_apart : List Row → Row → Bool
are_apart rows row = list_all (λ n. not (is_correlated_apart rows row n)) (correlated_names row)

-- ---- rules of conformity
-- the rule of the row of this name
abbrev pub rule_in : List Row → List ℕ → Option Rule
rule_in rows n = option_and_then row_rule (find (is_named n) rows)

abbrev pub rule_of : Sheet → List ℕ → Option Rule
rule_of sheet n = rule_in sheet.rows n

abbrev pub has_rule : Sheet → List ℕ → Bool
has_rule sheet n = is_some (rule_of sheet n)

-- ---- well-formed sheets
abbrev pub row_limit : ℕ
row_limit = 4096

-- no two of the rows have the same name
abbrev pub are_named_once : List Row → Bool
are_named_once [] = true
are_named_once (row ∷ rows) = not (is_among rows (name_of row)) && are_named_once rows

-- each name that the row uses is a quantity of the rows
abbrev pub are_known : List Row → Row → Bool
are_known rows row = list_all (is_quantity_in rows) (used_names row)

-- each name that one of these rows uses is a quantity of the rows before it, `before` or among these
abbrev pub are_earlier : List Row → List Row → Bool
are_earlier before [] = true
are_earlier before (row ∷ rows) = are_known before row && are_earlier (before ++ row ∷ []) rows

pub record IsWellFormed (sheet : Sheet) : Type 0 where
  pub limit : length sheet.rows ≤ row_limit
  pub once : are_named_once sheet.rows ≡ true
  pub known : list_all (are_known sheet.rows) sheet.rows ≡ true
  pub earlier : are_earlier [] sheet.rows ≡ true
  pub correlatable : list_all (are_correlatable sheet.rows) sheet.rows ≡ true
  pub apart : list_all (are_apart sheet.rows) sheet.rows ≡ true

-- ---- sheets that stand
-- the sheet is well formed, and its rows are regular
pub record IsStanding (sheet : Sheet) : Type 0 where
  pub well_formed : IsWellFormed sheet
  pub regular : AreRegular sheet.rows
