-- Quantities by their keys, as the names of a sheet: inputs with their estimates, means of readings, and
-- formulas over other quantities. `same` tests two keys for equality.
use Rattle.std.specs.Prelude.{◌≡◌, ◌<◌, ℕ, Bool, if◌then◌else◌, not, List, [], ◌∷◌, map, find, Option, Some, None, is_some}
use Rattle.decimal18.specs.Bound.{Bound}
use Rattle.formula_ast.specs.Trees.{Tree, uses}
use Rattle.type_a.specs.Tables.{Table, width_of, refusal}

pub data Body (K : Type 0) : Type 0 where
  -- an input, by its estimate (JCGM 100:2008, 4.1.4)
  Input : Bound → Body K
  -- a formula (4.1.1), and the quantity for which each of its names stands
  Function : Tree → (List ℕ → K) → Body K
  -- the mean of a column of readings (4.2.1), by the table and the column's place in it
  Column : Table → ℕ → Body K

pub record Quantity (K : Type 0) : Type 0 where
  pub key : K
  pub body : Body K

-- what the quantity of this key is
abbrev pub body_of : {K : Type 0} → (K → K → Bool) → List (Quantity K) → K → Option (Body K)
body_of same [] n = None
body_of same (q ∷ qs) n = if same q.key n then Some q.body else body_of same qs n

abbrev pub is_there : {K : Type 0} → (K → K → Bool) → List (Quantity K) → K → Bool
is_there same qs n = is_some (body_of same qs n)

-- the first of these keys that is no quantity's
abbrev pub first_unknown : {K : Type 0} → (K → K → Bool) → List (Quantity K) → List K → Option K
first_unknown same qs ns = find (λ n. not (is_there same qs n)) ns

-- the quantities that a body uses, in the order of the uses
abbrev pub used_by : {K : Type 0} → Body K → List K
used_by (Input estimate) = []
used_by (Function f key) = map key (uses f)
used_by (Column t column) = []

-- the column is one of a table that is taken
pub record IsColumn (t : Table) (column : ℕ) : Type 0 where
  pub taken : refusal t ≡ None
  pub there : column < width_of t

-- a body that is a column is one of a table that is taken
abbrev pub HasItsColumn : {K : Type 0} → Body K → Type 0
HasItsColumn (Input estimate) = Unit {0}
HasItsColumn (Function f key) = Unit {0}
HasItsColumn (Column t column) = IsColumn t column

-- a formula of a sheet: each of its names stands for the quantity of this name
abbrev pub by_names : Tree → Body (List ℕ)
by_names f = Function f (λ n. n)
