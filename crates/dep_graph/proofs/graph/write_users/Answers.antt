use Rattle.std.proofs.Common.{rules}
use Rattle.dep_graph.proofs.Inserting.{writing-step}
use Rattle.dep_graph.proofs.graph.write_users.Goals as goal

pub loop-list-preserved : goal.loop-list-preserved
loop-list-preserved c =
    writing-step c.args.nodes.now.entries c.loop-list.nodes.entries c.write.new.nodes.entries c.args.lists.items c.pop.new.self.items c.in-Some.list
    (rw (c.in-Some.ensures.items) at c.loop-list.invariant) c.write.ensures.nodes c.write.ensures.users
