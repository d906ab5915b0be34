-- The quantities of a sheet by numbers, which are their places among them, as the code keeps them.
use Rattle.std.specs.Prelude.{◌≡◌, ℕ, bytes_eq, List, [], ◌∷◌, ◌++◌, map, drop}
use Rattle.std.specs.List.{AllZip, flat_map, position_or_len}
use Rattle.dep_graph.specs.Nodes.{ids_of}
use Rattle.type_a.specs.Tables.{Table}
use Rattle.sheet_rows.specs.Rows.{Row}
use Rattle.value_cache.specs.Quantities.{Quantity}
use Rattle.value_cache.specs.Evaluable.{AreInOrder}
use Rattle.value_cache.specs.Rules.{numbered, IsGraphOf}
use Rattle.value_cache.specs.Slots.{body_view, IsPlaceable, bodies_of}
use Rattle.value_cache.specs.declared.body.Body.{Body as CodeBody}
use Rattle.value_cache.specs.declared.body.Body.TheVariants.{Point, Column as CodeColumn, Formula as CodeFormula}
use Rattle.value_cache.specs.Renaming.{IsRenamedBody, IsRenamed}
use Rattle.sheet_model.specs.Quantities.{column_quantities, row_quantities}
use Rattle.sheet_model.specs.Walks.{Quantities, names, Follow}
use Rattle.sheet_model.specs.declared.numbering.Numbered.{Numbered}

-- ---- numbers
-- the place of a name in a list
abbrev pub number_in : List (List ℕ) → List ℕ → ℕ
number_in ns n = position_or_len (bytes_eq n) ns

-- the number of the quantity of this name
abbrev pub number_among : Quantities → List ℕ → ℕ
number_among qs n = number_in (names qs) n

-- the quantities that the code keeps, by their numbers
abbrev pub quantities_by : Numbered → List (Quantity ℕ)
quantities_by kept = numbered (bodies_of kept.cache) (ids_of kept.graph)

-- of `all` the code keeps those before the others, each by its number among all
pub record AreKept (all before : Quantities) (kept : Numbered) : Type 0 where
  pub named : kept.names.keys ≡ names before
  pub ids : ids_of kept.graph ≡ map (number_among all) (names before)
  pub graph : IsGraphOf kept.graph (bodies_of kept.cache)
  pub each : AllZip (IsRenamed (number_among all)) before (quantities_by kept)

-- it keeps all of them
abbrev pub AreAllKept : Quantities → Numbered → Type 0
AreAllKept all kept = AreKept all all kept

-- ---- more quantities
-- these are the next of `all`, each with a new name, and use those before them
pub record AreNext (all before qs : Quantities) : Type 0 where
  pub rest : Quantities
  pub whole : before ++ (qs ++ rest) ≡ all
  pub order : AreInOrder bytes_eq before qs

-- those that the code keeps can be followed by these
pub record CanTake (kept : Numbered) (qs : Quantities) : Type 0 where
  pub all : Quantities
  pub before : Quantities
  pub are : AreKept all before kept
  pub next : AreNext all before qs

-- where they follow those that the code keeps, it keeps them too
abbrev pub Takes : Numbered → Quantities → Numbered → Type 0
Takes old qs new = (all before : Quantities) → AreKept all before old → AreNext all before qs → AreKept all (before ++ qs) new

-- the numbers of the quantities that a body of the code uses
abbrev pub numbers_in : CodeBody → List ℕ
numbers_in (Point estimate) = []
numbers_in (CodeColumn readings column) = []
numbers_in (CodeFormula formula used ids) = ids

-- the body stands for that of a quantity of this name
pub record StandsFor (number : List ℕ → ℕ) (q : Quantity (List ℕ)) (name : List ℕ) (body : CodeBody) : Type 0 where
  pub key : q.key ≡ name
  pub renamed : IsRenamedBody number q.body (body_view body)
  pub placeable : IsPlaceable body

-- those that the code keeps can be followed by the one for which the body stands
pub record CanAdd (kept : Numbered) (name : List ℕ) (body : CodeBody) : Type 0 where
  pub quantity : Quantity (List ℕ)
  pub can : CanTake kept (quantity ∷ [])
  pub stands : StandsFor (number_among can.all) quantity name body

-- ---- walks
-- the walk has these rows left, and the code keeps the quantities of those before them
pub record IsWalked (rows rest : List Row) (kept : Numbered) : Type 0 where
  pub before : List Row
  pub whole : before ++ rest ≡ rows
  pub are : AreKept (flat_map row_quantities rows) (flat_map row_quantities before) kept
  pub follow : Follow before rest

-- the walk over the columns of a table has those from the place on left, and the code keeps those before it
pub record AreWalked (all before : Quantities) (name : List ℕ) (table : Table) (columns : List (List ℕ)) (place : ℕ) (kept : Numbered) : Type 0 where
  pub done : Quantities
  pub are : AreKept all (before ++ done) kept
  pub next : AreNext all (before ++ done) (column_quantities name table place (drop place columns))
  pub whole : done ++ column_quantities name table place (drop place columns) ≡ column_quantities name table 0 columns
