use Rattle.std.proofs.Common.{sym, ◌∙◌, ap}
use Rattle.dep_graph.specs.Nodes.{has}
use Rattle.value_cache.specs.Slots.{bodies_of}
use Rattle.adjoint_pass.proofs.Nodes.{users_placed}
use Rattle.adjoint_pass.proofs.sweep.next_sensitivity.Goals as goal

pub brought-requires : goal.brought-requires
brought-requires g c = record {
  placed = λ m h. users_placed c.args.graph.now (bodies_of c.args.cache.now) c.requires.graph c.args.n m (ap (λ l. has l m) (sym c.users.ensures) ∙ h);
}
