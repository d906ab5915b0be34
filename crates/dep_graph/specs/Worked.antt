-- A worked graph: an input, two nodes that use it, and one that uses both.
use Rattle.std.specs.Prelude.{ℕ, List, [], ◌∷◌}
use Rattle.dep_graph.specs.Nodes.{Node}

-- the numbers do not rise along the order
abbrev pub diamond : List Node
diamond =
    record { id = 8; uses = [] }
    ∷ record { id = 5; uses = 8 ∷ [] }
    ∷ record { id = 9; uses = 8 ∷ [] }
    ∷ record { id = 2; uses = 5 ∷ 9 ∷ 5 ∷ [] }
    ∷ []
