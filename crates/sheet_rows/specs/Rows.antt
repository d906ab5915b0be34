-- Rows, and the sheets of which they are.
use Rattle.std.specs.Prelude.{ℕ, ◌==◌, ◌&&◌, Bool, true, false, List, [], ◌∷◌, ◌++◌, map, get_or, bytes_eq, Option, None, Some}
use Rattle.std.specs.List.{list_any, slice_split}
use Rattle.line_text.specs.Characters.{point}
use Rattle.decimal18.specs.Bound.{Bound}
use Rattle.formula_ast.specs.Trees.{Tree, uses, distinct}
use Rattle.formula_ast.specs.Views.{tree_of}
use Rattle.type_b.specs.declared.shape.Shape.{Shape}
use Rattle.type_b.specs.declared.shape.Dof.{Dof}
use Rattle.type_b.specs.declared.shape.Dof.TheVariants.{Inf}
use Rattle.type_b.specs.Variances.{states_deviation}
use Rattle.type_a.specs.Tables.{Table}
use Rattle.guard_band.specs.declared.rule.Rule.{Rule}
use Rattle.sheet_rows.specs.declared.row.Row.{Row as CodeRow}
use Rattle.sheet_rows.specs.declared.row.Row.TheVariants.{Given as CodeGiven, Readings as CodeReadings, Joint as CodeJoint, Correlation as CodeCorrelation, Formula as CodeFormula, Tolerance as CodeTolerance}

pub data Row : Type 0 where
  -- an input: its name, its estimate (JCGM 100:2008, 4.1.4), how its uncertainty is stated, and the degrees of freedom of that
  Given : List ℕ → Bound → Shape → Dof → Row
  -- an input by its readings (4.2.1), which are a table of one column
  Readings : List ℕ → Table → Row
  -- inputs by their joint readings (5.2.3): the names of the columns, and a table of as many
  Joint : List ℕ → List (List ℕ) → Table → Row
  -- the correlation coefficient of the estimates of two inputs (5.2.2)
  Correlation : List ℕ → List ℕ → List ℕ → Bound → Row
  -- a quantity and its measurement function (4.1.1)
  Formula : List ℕ → Tree → Row
  -- a rule by which statements of conformity are made (ILAC-G8:09/2019, 4.2.2, 4.2.3)
  Tolerance : List ℕ → Rule → Row

abbrev pub name_of : Row → List ℕ
name_of (Given name estimate shape dof) = name
name_of (Readings name table) = name
name_of (Joint name columns table) = name
name_of (Correlation name first second coefficient) = name
name_of (Formula name formula) = name
name_of (Tolerance name rule) = name

-- the names that a row uses, in the order of use
abbrev pub used_names : Row → List (List ℕ)
used_names (Given name estimate shape dof) = []
used_names (Readings name table) = []
used_names (Joint name columns table) = []
used_names (Correlation name first second coefficient) = first ∷ second ∷ []
used_names (Formula name formula) = uses formula
used_names (Tolerance name rule) = []

-- each of them once, in the order of first use
abbrev pub names_used : Row → List (List ℕ)
names_used row = distinct (used_names row)

-- ---- quantities
-- the name of the quantity of a column: that of the table and that of the column, with a point between them
abbrev pub column_name : List ℕ → List ℕ → List ℕ
column_name table column = table ++ point ∷ column

abbrev pub column_names : List ℕ → List (List ℕ) → List (List ℕ)
column_names table columns = map (column_name table) columns

-- the name of the row of a quantity: what stands before the point, or all where there is none
abbrev pub row_part : List ℕ → List ℕ
row_part n = get_or (slice_split (λ byte. byte == point) n) 0 []

-- the names that have a value by the row: its own, those of its columns, or none for a correlation and for a rule
abbrev pub quantities_of : Row → List (List ℕ)
quantities_of (Given name estimate shape dof) = name ∷ []
quantities_of (Readings name table) = name ∷ []
quantities_of (Joint name columns table) = column_names name columns
quantities_of (Correlation name first second coefficient) = []
quantities_of (Formula name formula) = name ∷ []
quantities_of (Tolerance name rule) = []

abbrev pub gives : Row → List ℕ → Bool
gives row n = list_any (bytes_eq n) (quantities_of row)

-- the name is that of an input of the row (JCGM 100:2008, 4.1.3), which has an estimate of its own
abbrev pub gives_input : Row → List ℕ → Bool
gives_input (Given name estimate shape dof) n = gives (Given name estimate shape dof) n
gives_input (Readings name table) n = gives (Readings name table) n
gives_input (Joint name columns table) n = gives (Joint name columns table) n
gives_input (Correlation name first second coefficient) n = false
gives_input (Formula name formula) n = false
gives_input (Tolerance name rule) n = false

-- whether the row is a table, which alone has quantities under other names than its own
abbrev pub is_table : Row → Bool
is_table (Given name estimate shape dof) = false
is_table (Readings name table) = false
is_table (Joint name columns table) = true
is_table (Correlation name first second coefficient) = false
is_table (Formula name formula) = false
is_table (Tolerance name rule) = false

-- ---- correlations
-- the names of the two inputs, where the row is a correlation
abbrev pub correlated_names : Row → List (List ℕ)
correlated_names (Given name estimate shape dof) = []
correlated_names (Readings name table) = []
correlated_names (Joint name columns table) = []
correlated_names (Correlation name first second coefficient) = first ∷ second ∷ []
correlated_names (Formula name formula) = []
correlated_names (Tolerance name rule) = []

abbrev pub correlates : Row → List ℕ → Bool
correlates row n = list_any (bytes_eq n) (correlated_names row)

abbrev pub are_infinite : Dof → Bool
are_infinite Inf = true
are_infinite _ = false

-- an input may be correlated where its standard deviation is stated, with infinitely many degrees of freedom: our rule
abbrev pub is_correlatable : Row → Bool
is_correlatable (Given name estimate shape dof) = states_deviation shape && are_infinite dof
is_correlatable (Readings name table) = false
is_correlatable (Joint name columns table) = false
is_correlatable (Correlation name first second coefficient) = false
is_correlatable (Formula name formula) = false
is_correlatable (Tolerance name rule) = false

-- ---- rules of conformity
-- the rule, where the row is one
abbrev pub row_rule : Row → Option Rule
row_rule (Given name estimate shape dof) = None
row_rule (Readings name table) = None
row_rule (Joint name columns table) = None
row_rule (Correlation name first second coefficient) = None
row_rule (Formula name formula) = None
row_rule (Tolerance name rule) = Some rule

-- ---- sheets
pub record Sheet : Type 0 where
  -- in their order
  pub rows : List Row

abbrev pub sheet_of : List Row → Sheet
sheet_of rows = record { rows = rows }

abbrev pub empty_sheet : Sheet
empty_sheet = record { rows = [] }

-- ---- what the code's rows are
abbrev pub row_of : CodeRow → Row
row_of (CodeGiven name estimate shape dof) = Given name estimate shape dof
row_of (CodeReadings name readings) = Readings name readings.value
row_of (CodeJoint name columns readings) = Joint name columns readings.value
row_of (CodeCorrelation name first second coefficient) = Correlation name first second coefficient
row_of (CodeFormula name formula) = Formula name (tree_of formula.value)
row_of (CodeTolerance name rule) = Tolerance name rule
