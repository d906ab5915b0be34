use Rattle.std.proofs.Common.{◌≡◌, ◌+◌, ◌≤◌, drop, filter, length, take}
use Rattle.dep_graph.specs.Nodes.{has, ids_of, users_in}
use Rattle.dep_graph.proofs.graph.Graph.count_before.Given as goal

abbrev pub invariant-loop-user : goal.invariant-loop-user
invariant-loop-user l = (l.count ≤ l.user-index)
    × (l.count + length (filter (has (ids_of (take l.fn.at l.fn.self))) (drop l.user-index l.user-items)) ≡ length (filter (has (ids_of (take l.fn.at l.fn.self))) (users_in l.fn.self l.fn.id)))
