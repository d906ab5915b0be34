-- What an uncertainty budget asks of a sheet: its inputs with their variances, and its groups with the names of their rows, both
-- in the order of the rows.
use Rattle.std.specs.Prelude.{ℕ, List, [], ◌∷◌, map, IfSome, bytes_eq}
use Rattle.std.specs.List.{flat_map, enumerate_from}
use Rattle.exact_law.specs.Law.{covariance}
use Rattle.fixed_interval.specs.Interval.{Encloses}
use Rattle.type_a.specs.Tables.{Table}
use Rattle.type_a.specs.Statistics.{joint_span}
use Rattle.type_b.specs.Variances.{variance_span}
use Rattle.covariance.specs.Groups.{Group}
use Rattle.sheet_rows.specs.Rows.{Row, Given, Readings, Joint, Correlation, Formula, Tolerance, Sheet, name_of, column_name}
use Rattle.sheet_model.specs.Groups.{row_groups, exact_groups}
use Rattle.sheet_model.specs.declared.variances.InputVariance.{InputVariance}

-- ---- inputs
-- a column of a table, by its place and its name, with the span of the variance of its mean (JCGM 100:2008, 4.2.3)
abbrev pub column_variance : List ℕ → Table → ℕ × List ℕ → InputVariance
column_variance name table column = record { name = column_name name column.1; variance = joint_span table column.0 column.0 }

-- columns in their order, the first of which is that at the place
abbrev pub column_variances : List ℕ → Table → ℕ → List (List ℕ) → List InputVariance
column_variances name table place columns = map (column_variance name table) (enumerate_from place columns)

-- the inputs of a row in their order, each with the span of its variance (4.2.3, 4.3); there is none where an operation for it
-- leaves the range of bounds
abbrev pub row_variances : Row → List InputVariance
row_variances (Given name estimate shape dof) = record { name = name; variance = variance_span shape } ∷ []
row_variances (Readings name table) = record { name = name; variance = joint_span table 0 0 } ∷ []
row_variances (Joint name columns table) = column_variances name table 0 columns
row_variances (Correlation name first second coefficient) = []
row_variances (Formula name formula) = []
row_variances (Tolerance name rule) = []

abbrev pub variances : Sheet → List InputVariance
variances sheet = flat_map row_variances sheet.rows

-- the span of an input's variance encloses its variance by the exact law, where there is one
abbrev pub IsEnclosed : Sheet → InputVariance → Type 0
IsEnclosed sheet i = IfSome i.variance (λ s. Encloses s (covariance bytes_eq (exact_groups sheet) i.name i.name))

-- ---- groups
-- a group with the name of the row that makes it one
pub record NamedGroup : Type 0 where
  pub name : List ℕ
  pub group : Group (List ℕ)

-- the groups of a row under its name
abbrev pub row_named_groups : List Row → Row → List NamedGroup
row_named_groups rows row = map (λ g. record { name = name_of row; group = g }) (row_groups rows row)

abbrev pub named_groups : Sheet → List NamedGroup
named_groups sheet = flat_map (row_named_groups sheet.rows) sheet.rows

-- the names alone
abbrev pub row_names : List Row → Row → List (List ℕ)
row_names rows row = map (λ (g : NamedGroup). g.name) (row_named_groups rows row)

abbrev pub group_names : Sheet → List (List ℕ)
group_names sheet = map (λ (g : NamedGroup). g.name) (named_groups sheet)
