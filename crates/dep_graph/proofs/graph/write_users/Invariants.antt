use Rattle.dep_graph.proofs.Inserting.{IsWriting}
use Rattle.dep_graph.proofs.graph.write_users.Given as goal

abbrev pub invariant-loop-list : goal.invariant-loop-list
invariant-loop-list l = IsWriting l.initial.nodes.entries l.nodes.entries l.initial.lists.items l.lists.items

abbrev pub decreases-loop-list : goal.decreases-loop-list
decreases-loop-list l = goal.left-loop-list l
