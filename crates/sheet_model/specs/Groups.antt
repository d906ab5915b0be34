-- The groups of a sheet's inputs, in the order of its rows: inputs in one group may be correlated, those in two are
-- not (JCGM 100:2008, 5.2.2).
use Rattle.std.specs.Prelude.{ℕ, Bool, if◌then◌else◌, List, [], ◌∷◌, map}
use Rattle.std.specs.List.{list_any, flat_map}
use Rattle.exact_law.specs.Law as law
use Rattle.exact_law.specs.Law.{inputs_of}
use Rattle.type_b.specs.declared.shape.Shape.{Shape}
use Rattle.type_b.specs.declared.shape.Shape.TheVariants.{Exact}
use Rattle.sheet_rows.specs.Rows.{Row, Given, Readings, Joint, Correlation, Formula, Tolerance, Sheet, column_names, correlates}
use Rattle.sheet_rows.specs.Sheets.{is_named}
use Rattle.value_cache.specs.Model.{model_of}
use Rattle.covariance.specs.Groups.{Group, Single, Pair, Columns, exact_group}
use Rattle.sheet_model.specs.Quantities.{quantities}

-- the inputs of the sheet's model (4.1.3)
abbrev pub inputs : Sheet → List (List ℕ)
inputs sheet = inputs_of (model_of (quantities sheet))

-- one of the rows correlates the input of this name with another
abbrev pub is_correlated : List Row → List ℕ → Bool
is_correlated rows n = list_any (λ row. correlates row n) rows

-- how the uncertainty of the input of this name is stated; `Exact`, which says nothing, where no row states it
abbrev pub shape_of_row : Row → Shape
shape_of_row (Given name estimate shape dof) = shape
shape_of_row (Readings name table) = Exact
shape_of_row (Joint name columns table) = Exact
shape_of_row (Correlation name first second coefficient) = Exact
shape_of_row (Formula name formula) = Exact
shape_of_row (Tolerance name rule) = Exact

abbrev pub shape_in : List Row → List ℕ → Shape
shape_in [] n = Exact
shape_in (row ∷ rows) n = if is_named n row then shape_of_row row else shape_in rows n

-- the group of a row, if it has one: an input alone that no row correlates, readings, the columns of a table, or the two
-- inputs of a correlation
abbrev pub row_groups : List Row → Row → List (Group (List ℕ))
row_groups rows (Given name estimate shape dof) = if is_correlated rows name then [] else Single name shape dof ∷ []
row_groups rows (Readings name table) = Columns (name ∷ []) table ∷ []
row_groups rows (Joint name columns table) = Columns (column_names name columns) table ∷ []
row_groups rows (Correlation name first second coefficient) =
    Pair first (shape_in rows first) second (shape_in rows second) coefficient ∷ []
row_groups rows (Formula name formula) = []
row_groups rows (Tolerance name rule) = []

abbrev pub groups : Sheet → List (Group (List ℕ))
groups sheet = flat_map (row_groups sheet.rows) sheet.rows

-- the same as groups of the exact law, each with its variances, covariances and degrees of freedom
abbrev pub exact_groups : Sheet → List (law.Group (List ℕ))
exact_groups sheet = map exact_group (groups sheet)
