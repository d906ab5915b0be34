use Rattle.std.proofs.Common.{◌≡◌, ◌++◌, ◌&&◌, not, nat_eq, drop, filter}
use Rattle.dep_graph.specs.Nodes.{has, ids_of}
use Rattle.dep_graph.proofs.graph.Graph.others_in_order.Given as goal

abbrev pub invariant-loop-id : goal.invariant-loop-id
invariant-loop-id l = l.list ++ filter (λ n. not (nat_eq n l.fn.but) && has l.found.keys n) (drop l.id-index l.id-items)
    ≡ filter (λ n. not (nat_eq n l.fn.but) && has l.found.keys n) (ids_of l.fn.self)
