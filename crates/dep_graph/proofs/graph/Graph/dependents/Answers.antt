use Rattle.std.proofs.Common.{rules}
use Rattle.dep_graph.proofs.Orders.{dependents-of}
use Rattle.dep_graph.proofs.graph.Graph.dependents.Goals as goal

pub returns : goal.returns
returns c =
    let all = dependents-of c.args.self.now c.in_ok-found.ensures.once c.args.id c.in_ok-found.found.keys (c.in_ok-found.ensures.closure) (c.in_ok-found.ensures.within) in
    search (rules, all)
