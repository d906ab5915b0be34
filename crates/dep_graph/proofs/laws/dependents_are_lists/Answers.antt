use Rattle.dep_graph.proofs.Orders.{dependents-once}
use Rattle.dep_graph.proofs.laws.dependents_are_lists.Goals as goal

pub returns : goal.returns
returns c = dependents-once
