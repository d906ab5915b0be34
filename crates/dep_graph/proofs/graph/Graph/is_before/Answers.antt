use Rattle.std.proofs.Common.{rules}
use Rattle.dep_graph.proofs.Entries.{there-at, not-there}
use Rattle.dep_graph.proofs.graph.Graph.is_before.Goals as goal

pub returns-in-Some : goal.returns-in-Some
returns-in-Some c =
    let is = there-at c.self.inside.nodes.entries c.args.id c.args.at c.in-Some.place in
    rw (← c.self.view_is) (search (rules, is))

pub returns-in-None : goal.returns-in-None
returns-in-None c =
    let is = not-there c.self.inside.nodes.entries c.args.id c.args.at in
    rw (← c.self.view_is) (search (rules, is))
