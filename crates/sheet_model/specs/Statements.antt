-- What the code keeps of the rows of a sheet, to find how an input is stated and whether it is correlated.
use Rattle.std.specs.Prelude.{◌≡◌, ℕ, ◌||◌, if◌then◌else◌, List, ◌++◌, Option, Some, bytes_eq}
use Rattle.std.specs.List.{list_any}
use Rattle.std.specs.Map.{lookup}
use Rattle.std.specs.Option.{unwrap_or}
use Rattle.type_b.specs.declared.shape.Shape.{Shape}
use Rattle.type_b.specs.declared.shape.Shape.TheVariants.{Exact}
use Rattle.sheet_rows.specs.Rows.{Row, Given, Readings, Joint, Correlation, Formula, Tolerance, correlates}
use Rattle.sheet_model.specs.Groups.{is_correlated, shape_in}
use Rattle.sheet_model.specs.declared.statements.Statements.{Statements}

-- it is what these rows say
pub record AreStated (rows : List Row) (found : Statements) : Type 0 where
  pub shapes : (n : List ℕ) → unwrap_or (lookup (bytes_eq n) found.shapes.entries) Exact ≡ shape_in rows n
  pub correlated : (n : List ℕ) → list_any (bytes_eq n) found.correlated.keys ≡ is_correlated rows n

-- the shape that is found for a name, after that of the row where this is an input that states one
abbrev pub shape_after : Row → List ℕ → Option Shape → Option Shape
shape_after (Given name estimate shape dof) n found = if bytes_eq n name then Some shape else found
shape_after (Readings name table) n found = found
shape_after (Joint name columns table) n found = found
shape_after (Correlation name first second coefficient) n found = found
shape_after (Formula name formula) n found = found
shape_after (Tolerance name rule) n found = found

-- what one row says is added
pub record StatesMore (old : Statements) (row : Row) (new : Statements) : Type 0 where
  pub shapes : (n : List ℕ) → lookup (bytes_eq n) new.shapes.entries ≡ shape_after row n (lookup (bytes_eq n) old.shapes.entries)
  pub correlated : (n : List ℕ) → list_any (bytes_eq n) new.correlated.keys ≡ (list_any (bytes_eq n) old.correlated.keys || correlates row n)

-- the walk has these rows left, and what the rows before them say is found
pub record IsRead (rows rest : List Row) (found : Statements) : Type 0 where
  pub before : List Row
  pub whole : before ++ rest ≡ rows
  pub stated : AreStated before found
