use Rattle.std.proofs.Common.{rules, ◌≡◌, true}
use Rattle.dep_graph.specs.Nodes.{has, ids_of}
use Rattle.dep_graph.specs.Views.{nodes_of}
use Rattle.dep_graph.proofs.Entries.{there, users-kept}
use Rattle.dep_graph.proofs.graph.Graph.users.Goals as goal

pub unwrap-requires : goal.unwrap-requires
unwrap-requires c =
    let h : has (ids_of (nodes_of c.self.inside.nodes.entries)) c.args.id ≡ true = rw (← c.self.view_is) at c.requires in
    let found = there c.self.inside.nodes.entries c.args.id h in
    search (rules, found)

pub returns : goal.returns
returns c =
    let kept = users-kept c.self.inside.nodes.entries c.self.invariant in
    rw (← c.self.view_is) (search (rules, kept))
