use Rattle.std.proofs.Common.{◌≡◌, ◌++◌, drop, filter}
use Rattle.dep_graph.specs.Nodes.{has, ids_of}
use Rattle.dep_graph.proofs.graph.Graph.found_in_order.Given as goal

abbrev pub invariant-loop-id : goal.invariant-loop-id
invariant-loop-id l = l.list ++ filter (has l.found.keys) (drop l.id-index l.id-items) ≡ filter (has l.found.keys) (ids_of l.fn.self)
