use Rattle.std.proofs.Common.{◌≡◌, nat_eq, drop}
use Rattle.indexmap.specs.IndexSet.{insert_all}
use Rattle.dep_graph.specs.Reaching.{next_in}
use Rattle.dep_graph.proofs.graph.Graph.add_next.Given as goal

abbrev pub invariant-loop-next : goal.invariant-loop-next
invariant-loop-next l = insert_all nat_eq l.found.keys (drop l.next-index l.next-items) ≡ insert_all nat_eq l.fn.found.keys (next_in l.fn.way l.fn.self l.fn.id)
