-- A small sheet, by which the definition of its groups can be read.
use Rattle.std.specs.Prelude.{[], ◌∷◌}
use Rattle.type_b.specs.declared.shape.Shape.TheVariants.{Std}
use Rattle.type_b.specs.declared.shape.Dof.TheVariants.{Inf}
use Rattle.sheet_rows.specs.Rows.{Row, Sheet, Given}
use Rattle.sheet_rows.specs.WorkedSheets.{named, whole, std, rect, readings, table, correlation, same_as, sheet}

-- the input C with a standard deviation of 2
abbrev pub std_of_two : Row
std_of_two = Given (named 67) (whole 10) (Std (whole 2)) Inf

-- the inputs A, B, C and D, the table T of the columns K and L, the correlation P of A and C, and the formula Y
abbrev pub mixed : Sheet
mixed = sheet (std 65 ∷ rect 66 ∷ std_of_two ∷ readings 68 ∷ table 84 (75 ∷ 76 ∷ []) ∷ correlation 80 65 67 5 ∷ same_as 89 65 ∷ [])
