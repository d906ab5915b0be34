use Rattle.std.specs.Prelude.{◌+◌, ◌≤◌, take, drop, sum_by}
use Rattle.covariance.specs.Gradients.{found_at}
use Rattle.value_cache.specs.Slots.{bodies_of}
use Rattle.adjoint_pass.proofs.Effort.{cost_at}
use Rattle.adjoint_pass.proofs.Sweeping.{sensitivities, AreFound}
use Rattle.adjoint_pass.proofs.sweep.sweep.Given as goal

abbrev pub invariant-loop-n : goal.invariant-loop-n
invariant-loop-n g l = record {
  found : AreFound (sensitivities l.graph (bodies_of l.cache) l.y) (take l.n-index l.cone) (found_at l.found);
  ticks : l.steps + sum_by (cost_at (bodies_of l.cache) l.y l.cone) (drop l.n-index l.cone)
      ≤ l.fn.steps + sum_by (cost_at (bodies_of l.cache) l.y l.cone) l.cone;
}
