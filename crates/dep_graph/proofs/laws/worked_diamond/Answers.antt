use Rattle.dep_graph.proofs.Diamond.{cone, dependents}
use Rattle.dep_graph.proofs.laws.worked_diamond.Goals as goal

pub returns-clause-cone : goal.returns-clause-cone
returns-clause-cone c = cone

pub returns-clause-dependents : goal.returns-clause-dependents
returns-clause-dependents c = dependents
