use Rattle.dep_graph.proofs.Orders.{cone-once}
use Rattle.dep_graph.proofs.laws.cones_are_lists.Goals as goal

pub returns : goal.returns
returns c = cone-once
