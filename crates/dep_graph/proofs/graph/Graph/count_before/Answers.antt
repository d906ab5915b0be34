use Rattle.std.proofs.Common.{rules, arith, ap, ◌∙◌, filter, length, take}
use Rattle.dep_graph.specs.Nodes.{has, ids_of, users_in, AreOnce}
use Rattle.dep_graph.proofs.Inserting.{users-before, counted}
use Rattle.dep_graph.proofs.graph.Graph.count_before.Goals as goal

pub returns : goal.returns
returns c =
    let nodes = c.args.self.now in
    let once : AreOnce c.args.self.now = rw (← c.self.view_is) c.self.invariant.once in
    counted (has (ids_of (take c.args.at nodes))) c.users-user-items.result.now c.loop-user.user-index c.loop-user.count
    (length (filter (has (ids_of (take c.args.at nodes))) (users_in nodes c.args.id)))
    (omega (arith, c.loop-user-test.false)) c.loop-user.invariant.1
    ∙ ap length (users-before nodes c.args.at once c.args.id)
