use Rattle.std.proofs.Common.{rules}
use Rattle.dep_graph.proofs.Entries.{there, nodes-written}
use Rattle.dep_graph.proofs.graph.write.Goals as goal

pub returns-in-Some-clause-nodes : goal.returns-in-Some-clause-nodes
returns-in-Some-clause-nodes c =
    let same = nodes-written c.args.nodes.now.entries c.args.id c.in-Some.edges.now in
    search (rules, same)

pub returns-in_default-clause-users : goal.returns-in_default-clause-users
returns-in_default-clause-users c =
    let found = there c.args.nodes.now.entries c.args.id c.requires.there in
    search (rules, found)
