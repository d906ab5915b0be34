use Rattle.std.proofs.Common.{◌-◌, length}
use Rattle.dep_graph.specs.Nodes.{ids_of}
use Rattle.dep_graph.specs.Reaching.{next_in}
use Rattle.dep_graph.proofs.Searches.{IsSearched}
use Rattle.dep_graph.proofs.graph.Graph.reach.Given as goal

abbrev pub invariant-loop-at : goal.invariant-loop-at
invariant-loop-at l = IsSearched (next_in l.fn.way l.fn.self) l.fn.id (ids_of l.fn.self) l.at l.found.keys

abbrev pub decreases-loop-at : goal.decreases-loop-at
decreases-loop-at l = length l.fn.self - l.at
