-- The names of a sheet's formulas stand for different quantities.
use Rattle.std.specs.Prelude.{ℕ, ◌+◌, bytes_eq, List, [], ◌∷◌, ◌++◌, refl}
use Rattle.std.specs.List.{flat_map}
use Rattle.type_a.specs.Tables.{Table}
use Rattle.sheet_rows.specs.Rows.{Row, Given, Readings, Joint, Correlation, Formula, Tolerance}
use Rattle.sheet_model.specs.Quantities.{column_quantities, row_quantities}
use Rattle.sheet_model.specs.Walks.{Quantities}
use Rattle.adjoint_pass.specs.Sensitivities.{AllKeepNamesApart}

columns_apart : (name : List ℕ) (table : Table) (place : ℕ) (columns : List (List ℕ)) (qs : Quantities) → AllKeepNamesApart bytes_eq qs
    → AllKeepNamesApart bytes_eq (column_quantities name table place columns ++ qs)
columns_apart name table place [] qs h = h
columns_apart name table place (column ∷ columns) qs h = (tt, columns_apart name table (place + 1) columns qs h)

pub names_apart : (rows : List Row) → AllKeepNamesApart bytes_eq (flat_map row_quantities rows)
names_apart [] = tt
names_apart (Given name estimate shape dof ∷ rows) = (tt, names_apart rows)
names_apart (Readings name table ∷ rows) = (tt, names_apart rows)
names_apart (Joint name columns table ∷ rows) = columns_apart name table 0 columns (flat_map row_quantities rows) (names_apart rows)
names_apart (Correlation name first second coefficient ∷ rows) = names_apart rows
names_apart (Formula name f ∷ rows) = (λ m n. refl, names_apart rows)
names_apart (Tolerance name rule ∷ rows) = names_apart rows
