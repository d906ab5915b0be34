use Rattle.std.proofs.Common.{◌≡◌, ◌++◌, ℕ, List, map, drop}
use Rattle.dep_graph.specs.Views.{extended, written}
use Rattle.dep_graph.proofs.graph.Graph.extended_users.Given as goal

abbrev pub invariant-loop-used : goal.invariant-loop-used
invariant-loop-used l = map written l.lists.items ++ map {A = ℕ} (λ n. (n, extended l.fn.self l.fn.at l.fn.id n)) (drop l.used-index l.fn.uses)
    ≡ map {A = ℕ} (λ n. (n, extended l.fn.self l.fn.at l.fn.id n)) l.fn.uses
