-- The quantities of a sheet: each input by its estimate or its readings, and each formula (JCGM 100:2008, 4.1).
use Rattle.std.specs.Prelude.{ℕ, List, [], ◌∷◌, map}
use Rattle.std.specs.List.{flat_map, enumerate_from}
use Rattle.type_a.specs.Tables.{Table}
use Rattle.sheet_rows.specs.Rows.{Row, Given, Readings, Joint, Correlation, Formula, Tolerance, Sheet, column_name}
use Rattle.value_cache.specs.Quantities.{Input, Column, Quantity, by_names}

-- a column of a table, by its place and its name
abbrev pub column_quantity : List ℕ → Table → ℕ × List ℕ → Quantity (List ℕ)
column_quantity name table column = record { key = column_name name column.1; body = Column table column.0 }

-- columns of a table in their order, the first of which is that at the place
abbrev pub column_quantities : List ℕ → Table → ℕ → List (List ℕ) → List (Quantity (List ℕ))
column_quantities name table place columns = map (column_quantity name table) (enumerate_from place columns)

-- those of a row, in their order, under the names that have a value by it. A row may have none
abbrev pub row_quantities : Row → List (Quantity (List ℕ))
row_quantities (Given name estimate shape dof) = record { key = name; body = Input estimate } ∷ []
row_quantities (Readings name table) = record { key = name; body = Column table 0 } ∷ []
row_quantities (Joint name columns table) = column_quantities name table 0 columns
row_quantities (Correlation name first second coefficient) = []
row_quantities (Formula name formula) = record { key = name; body = by_names formula } ∷ []
row_quantities (Tolerance name rule) = []

-- those of its rows, joined
abbrev pub quantities : Sheet → List (Quantity (List ℕ))
quantities sheet = flat_map row_quantities sheet.rows
