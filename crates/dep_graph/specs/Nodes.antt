-- A graph: a list of nodes in order, each with the nodes that it uses. A node is known by its number. These
-- definitions are this project's own.
use Rattle.std.specs.Prelude.{◌≡◌, ℕ, Bool, true, false, nat_eq, if◌then◌else◌, List, [], ◌∷◌, map}
use Rattle.std.specs.List.{list_any}

pub record Node : Type 0 where
  pub id : ℕ
  pub uses : List ℕ

-- n is one of these
abbrev pub has : List ℕ → ℕ → Bool
has ns n = list_any (nat_eq n) ns

-- the nodes in order
abbrev pub ids_of : List Node → List ℕ
ids_of nodes = map (λ node. node.id) nodes

-- what the node n uses, as it lists it; nothing where no node is n
abbrev pub uses_in : List Node → ℕ → List ℕ
uses_in [] n = []
uses_in (node ∷ nodes) n = if nat_eq n node.id then node.uses else uses_in nodes n

-- the nodes that use n, each once, in order
abbrev pub users_in : List Node → ℕ → List ℕ
users_in [] n = []
users_in (node ∷ nodes) n = if has node.uses n then node.id ∷ users_in nodes n else users_in nodes n

-- no two nodes are the same
abbrev pub AreOnce : List Node → Type 0
AreOnce [] = Unit {0}
AreOnce (node ∷ nodes) = (has (ids_of nodes) node.id ≡ false) × AreOnce nodes

-- each node uses nodes that are there
pub record IsWhole (nodes : List Node) : Type 0 where
  pub used : (y n : ℕ) → has (uses_in nodes y) n ≡ true → has (ids_of nodes) n ≡ true
