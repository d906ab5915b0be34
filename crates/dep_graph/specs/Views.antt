-- What the map of the code's graph holds: nodes, and beside each the kept list of its users.
use Rattle.std.specs.Prelude.{◌≡◌, ℕ, nat_eq, if◌then◌else◌, List, [], ◌∷◌, map, take, insert, length}
use Rattle.std.specs.Map.{lookup}
use Rattle.std.specs.Option.{option_map_or}
use Rattle.smallvec.specs.SmallVec.{SmallVec}
use Rattle.dep_graph.specs.Nodes.{Node, AreOnce, IsWhole, users_in}
use Rattle.dep_graph.specs.declared.graph.Edges.{Edges}

abbrev pub node_of : ℕ × Edges → Node
node_of entry = record { id = entry.0; uses = entry.1.uses.items }

abbrev pub nodes_of : List (ℕ × Edges) → List Node
nodes_of entries = map node_of entries

-- the users that are kept for n
abbrev pub users_at : List (ℕ × Edges) → ℕ → List ℕ
users_at entries n = option_map_or (λ edges. edges.users.items) (lookup (nat_eq n) entries) []

pub record IsGraph (entries : List (ℕ × Edges)) : Type 0 where
  pub once : AreOnce (nodes_of entries)
  pub whole : IsWhole (nodes_of entries)
  pub users : (n : ℕ) → users_at entries n ≡ users_in (nodes_of entries) n

-- the users of n, once a node at this place uses it
abbrev pub extended : List Node → ℕ → ℕ → ℕ → List ℕ
extended nodes at id n = insert (users_in nodes n) (length (users_in (take at nodes) n)) id

-- a list of users to be written, and whose they are
abbrev pub written : ℕ × SmallVec ℕ → ℕ × List ℕ
written list = (list.0, list.1.items)

-- `kept`, but for those for whom a list is given
abbrev pub given : List (ℕ × List ℕ) → (ℕ → List ℕ) → ℕ → List ℕ
given [] kept n = kept n
given (list ∷ lists) kept n = if nat_eq n list.0 then list.1 else given lists kept n
