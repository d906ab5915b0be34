use Rattle.std.specs.Prelude.{ℕ, ◌-◌, [], ◌∷◌, List, None, reverse, Option}
use Rattle.std.proofs.Common.{arith}
use Rattle.fixed_interval.specs.Interval.{Interval}
use Rattle.fixed_interval.proofs.SumLoops.{step_there, refused_sum}
use Rattle.covariance.specs.Gradients.{found_at}
use Rattle.value_cache.specs.Slots.{bodies_of, cells_of}
use Rattle.adjoint_pass.specs.Gathering.{gathered}
use Rattle.adjoint_pass.proofs.Terms.{users_before, gathered-next, cost-next}
use Rattle.adjoint_pass.proofs.sweep.brought.Goals as goal

pub returns-in_err-sum-clause-span : goal.returns-in_err-sum-clause-span
returns-in_err-sum-clause-span g c =
    let us : List ℕ = c.args.users.now in
    let terms : List ℕ → List (Option Interval) = gathered (bodies_of c.args.cache.now) (cells_of c.args.cache.now) (found_at c.args.found.now) c.args.n in
    refused_sum _ c.from_residual.ensures.0 c.loop-at.sum (terms (users_before us c.loop-at.at)) (terms (c.index-users-at.result ∷ []))
    (terms (users_before us (c.loop-at.at - 1))) (terms (reverse us))
    (gathered-next (bodies_of c.args.cache.now) (cells_of c.args.cache.now) (found_at c.args.found.now) c.args.n us c.loop-at.at c.index-users-at.result
    (omega arith) (omega arith) c.index-users-at.is) c.loop-at.invariant.rest c.in_err-sum.ensures.sum

pub loop-at-preserved : goal.loop-at-preserved
loop-at-preserved g c =
    let us : List ℕ = c.args.users.now in
    let terms : List ℕ → List (Option Interval) = gathered (bodies_of c.args.cache.now) (cells_of c.args.cache.now) (found_at c.args.found.now) c.args.n in
    record {
      rest = step_there c.loop-at.sum c.in_ok-sum.sum None (terms (users_before us c.loop-at.at)) (terms (c.index-users-at.result ∷ []))
          (terms (users_before us (c.loop-at.at - 1))) (terms (reverse us))
          (gathered-next (bodies_of c.args.cache.now) (cells_of c.args.cache.now) (found_at c.args.found.now) c.args.n us c.loop-at.at c.index-users-at.result
          (omega arith) (omega arith) c.index-users-at.is) c.loop-at.invariant.rest c.in_ok-sum.ensures.sum;
      ticks = omega (arith, cost-next (bodies_of c.args.cache.now) (found_at c.args.found.now) us c.loop-at.at c.index-users-at.result (omega arith) (omega arith) c.index-users-at.is);
    }
