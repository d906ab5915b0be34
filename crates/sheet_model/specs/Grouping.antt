-- The walk over the rows of a sheet that finds its groups by numbers.
use Rattle.std.specs.Prelude.{◌≡◌, ℕ, true, List, [], ◌∷◌, ◌++◌, map, bytes_eq}
use Rattle.std.specs.List.{list_any, list_all, flat_map}
use Rattle.sheet_rows.specs.Rows.{Row, quantities_of, correlated_names}
use Rattle.sheet_rows.specs.Regular.{IsRegular}
use Rattle.covariance.specs.Groups.{Group}
use Rattle.covariance.specs.Renaming.{renamed_group}
use Rattle.sheet_model.specs.Groups.{row_groups}
use Rattle.sheet_model.specs.Numbering.{number_in}

-- each of the names is one of these
abbrev pub AreAmong : List (List ℕ) → List (List ℕ) → Type 0
AreAmong names ns = list_all (λ n. list_any (bytes_eq n) names) ns ≡ true

-- each row is regular, and its quantities and the inputs that it correlates are among the names
abbrev pub CanGroup : List (List ℕ) → List Row → Type 0
CanGroup names [] = Unit {0}
CanGroup names (row ∷ rows) = (IsRegular row × AreAmong names (quantities_of row ++ correlated_names row)) × CanGroup names rows

-- the groups of some of the rows of a sheet by numbers
abbrev pub numbered_groups : List (List ℕ) → List Row → List Row → List (Group ℕ)
numbered_groups names rows some = map (renamed_group (number_in names)) (flat_map (row_groups rows) some)

-- the walk has these rows left, and the groups of those before them are found
pub record AreGrouped (names : List (List ℕ)) (rows rest : List Row) (found : List (Group ℕ)) : Type 0 where
  pub can : CanGroup names rest
  pub whole : found ++ numbered_groups names rows rest ≡ numbered_groups names rows rows
