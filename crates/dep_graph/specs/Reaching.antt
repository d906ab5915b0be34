-- What depends on what: what can be reached from a node by going on to one that is used, any number of times. No
-- order of the nodes is in it, and it stands where nodes use each other in a circle too.
use Rattle.std.specs.Prelude.{◌≡◌, ◌↔◌, ℕ, true, false, nat_eq, List, [], ◌∷◌, filter, reverse}
use Rattle.dep_graph.specs.Nodes.{Node, has, ids_of, uses_in, users_in}
use Rattle.dep_graph.specs.declared.way.Way.{Way}
use Rattle.dep_graph.specs.declared.way.Way.TheVariants.{Uses, Users}

-- `next` leads from y through these to n
abbrev pub IsChain : (ℕ → List ℕ) → ℕ → List ℕ → ℕ → Type 0
IsChain next y [] n = y ≡ n
IsChain next y (m ∷ ms) n = (has (next y) m ≡ true) × IsChain next m ms n

pub record Reaches (next : ℕ → List ℕ) (y n : ℕ) : Type 0 where
  pub chain : List ℕ
  pub is : IsChain next y chain n

-- y uses n, directly or through others, or is n
abbrev pub DependsOn : List Node → ℕ → ℕ → Type 0
DependsOn nodes y n = Reaches (uses_in nodes) y n

-- these are exactly what can be reached from y
pub record IsClosure (next : ℕ → List ℕ) (y : ℕ) (found : List ℕ) : Type 0 where
  pub reached : (n : ℕ) → has found n ≡ true → Reaches next y n
  pub whole : (n : ℕ) → Reaches next y n → has found n ≡ true

-- the cone of y: y and all that it depends on, each once, the last in order first
pub record IsCone (nodes : List Node) (y : ℕ) (found : List ℕ) : Type 0 where
  pub exactly : (n : ℕ) → (has found n ≡ true) ↔ DependsOn nodes y n
  pub falling : found ≡ reverse (filter (has found) (ids_of nodes))

-- the dependents of n: all others that depend on it, each once, in order
pub record AreDependents (nodes : List Node) (n : ℕ) (found : List ℕ) : Type 0 where
  pub exactly : (y : ℕ) → (has found y ≡ true) ↔ ((nat_eq y n ≡ false) × DependsOn nodes y n)
  pub rising : found ≡ filter (has found) (ids_of nodes)

-- what is next to a node, this way
abbrev pub next_in : Way → List Node → ℕ → List ℕ
next_in Uses nodes n = uses_in nodes n
next_in Users nodes n = users_in nodes n
