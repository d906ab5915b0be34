use Rattle.std.specs.Prelude.{ℕ, ◌+◌, [], ◌∷◌, map, Option}
use Rattle.std.proofs.Common.{rules, arith}
use Rattle.fixed_interval.specs.Interval.{Interval}
use Rattle.covariance.specs.Groups.{Group, group_of}
use Rattle.covariance.specs.Partial.{placed_at, placed_from, twice_at, row_at}
use Rattle.fixed_interval.proofs.SumLoops.{step_there, refused_step, at_end}
use Rattle.covariance.proofs.Sums.{members-next, members-end}
use Rattle.covariance.proofs.variances.with_member.Goals as goal

pub returns-in_err-sum-2-clause-sum : goal.returns-in_err-sum-2-clause-sum
returns-in_err-sum-2-clause-sum g c =
    let G : Group ℕ = group_of c.args.group.now in
    let f : ℕ × ℕ → Option Interval = twice_at c.args.y.now G (placed_at G c.args.i) in
    refused_step _ c.from_residual-in_err-sum-2.ensures.0 c.loop-j.sum c.args.sum (map f (placed_from G c.loop-j.j)) (f (placed_at G c.loop-j.j) ∷ [])
    (map f (placed_from G (c.loop-j.j + 1))) (row_at c.args.y.now G c.args.i)
    (members-next f G c.loop-j.j (search rules)) c.loop-j.invariant.rest c.in_err-sum-2.ensures.sum

pub loop-j-preserved : goal.loop-j-preserved
loop-j-preserved g c =
    let G : Group ℕ = group_of c.args.group.now in
    let f : ℕ × ℕ → Option Interval = twice_at c.args.y.now G (placed_at G c.args.i) in
    record {
      rest = step_there c.loop-j.sum c.in_ok-sum-2.sum c.args.sum (map f (placed_from G c.loop-j.j)) (f (placed_at G c.loop-j.j) ∷ [])
          (map f (placed_from G (c.loop-j.j + 1))) (row_at c.args.y.now G c.args.i)
          (members-next f G c.loop-j.j (search rules)) c.loop-j.invariant.rest c.in_ok-sum-2.ensures.sum;
      later = search rules;
      ticks = omega (arith, c.loop-j.invariant.ticks, c.with_twice.ensures.ticks);
    }

pub returns-clause-sum : goal.returns-clause-sum
returns-clause-sum g c =
    let G : Group ℕ = group_of c.args.group.now in
    let f : ℕ × ℕ → Option Interval = twice_at c.args.y.now G (placed_at G c.args.i) in
    at_end c.loop-j.sum c.args.sum (map f (placed_from G c.loop-j.j)) (row_at c.args.y.now G c.args.i)
    (members-end f G c.loop-j.j (search rules)) c.loop-j.invariant.rest
