use Rattle.std.proofs.Common.{rules}
use Rattle.dep_graph.proofs.Inserting.{few-before}
use Rattle.dep_graph.proofs.graph.Graph.extended.Goals as goal

pub insert-requires : goal.insert-requires
insert-requires c =
    let few = few-before c.args.self.now c.args.at c.args.used in
    search (rules, few)
