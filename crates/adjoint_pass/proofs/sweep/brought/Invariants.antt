use Rattle.std.specs.Prelude.{◌+◌, ◌≤◌, None, reverse}
use Rattle.fixed_interval.proofs.SumLoops.{Leaves}
use Rattle.covariance.specs.Gradients.{found_at}
use Rattle.value_cache.specs.Slots.{bodies_of, cells_of}
use Rattle.adjoint_pass.specs.Gathering.{gathered}
use Rattle.adjoint_pass.proofs.Terms.{users_before, cost_of_found}
use Rattle.adjoint_pass.proofs.sweep.brought.Given as goal

abbrev pub invariant-loop-at : goal.invariant-loop-at
invariant-loop-at g l = record {
  rest : Leaves l.sum (gathered (bodies_of l.cache) (cells_of l.cache) (found_at l.found) l.n (users_before l.users l.at)) None
      (gathered (bodies_of l.cache) (cells_of l.cache) (found_at l.found) l.n (reverse l.users));
  ticks : l.steps + cost_of_found (bodies_of l.cache) (found_at l.found) (users_before l.users l.at)
      ≤ l.fn.steps + cost_of_found (bodies_of l.cache) (found_at l.found) (reverse l.users);
}
