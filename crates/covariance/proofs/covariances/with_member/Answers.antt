use Rattle.std.specs.Prelude.{ℕ, ◌+◌, [], ◌∷◌, map, Option, refl}
use Rattle.std.proofs.Common.{rules, arith}
use Rattle.fixed_interval.specs.Interval.{Interval}
use Rattle.covariance.specs.Groups.{Group, group_of}
use Rattle.covariance.specs.Partial.{placed_at, placed_from, joint_at, cross_row_at}
use Rattle.fixed_interval.proofs.SumLoops.{step_there, refused_step, at_end}
use Rattle.covariance.proofs.Sums.{members-next, members-end}
use Rattle.covariance.proofs.covariances.with_member.Goals as goal

pub loop-j-init : goal.loop-j-init
loop-j-init g c = record { rest = λ more. refl; ticks = omega arith }

pub returns-in_err-sum-clause-sum : goal.returns-in_err-sum-clause-sum
returns-in_err-sum-clause-sum g c =
    let G : Group ℕ = group_of c.args.group.now in
    let f : ℕ × ℕ → Option Interval = joint_at c.args.y.now c.args.z.now G (placed_at G c.args.i) in
    refused_step _ c.from_residual.ensures.0 c.loop-j.sum c.args.sum (map f (placed_from G c.loop-j.j)) (f (placed_at G c.loop-j.j) ∷ [])
    (map f (placed_from G (c.loop-j.j + 1))) (cross_row_at c.args.y.now c.args.z.now G c.args.i)
    (members-next f G c.loop-j.j (search rules)) c.loop-j.invariant.rest c.in_err-sum.ensures.sum

pub loop-j-preserved : goal.loop-j-preserved
loop-j-preserved g c =
    let G : Group ℕ = group_of c.args.group.now in
    let f : ℕ × ℕ → Option Interval = joint_at c.args.y.now c.args.z.now G (placed_at G c.args.i) in
    record {
      rest = step_there c.loop-j.sum c.in_ok-sum.sum c.args.sum (map f (placed_from G c.loop-j.j)) (f (placed_at G c.loop-j.j) ∷ [])
          (map f (placed_from G (c.loop-j.j + 1))) (cross_row_at c.args.y.now c.args.z.now G c.args.i)
          (members-next f G c.loop-j.j (search rules)) c.loop-j.invariant.rest c.in_ok-sum.ensures.sum;
      ticks = omega (arith, c.loop-j.invariant.ticks, c.with_joint.ensures.ticks);
    }

pub returns-clause-sum : goal.returns-clause-sum
returns-clause-sum g c =
    let G : Group ℕ = group_of c.args.group.now in
    let f : ℕ × ℕ → Option Interval = joint_at c.args.y.now c.args.z.now G (placed_at G c.args.i) in
    at_end c.loop-j.sum c.args.sum (map f (placed_from G c.loop-j.j)) (cross_row_at c.args.y.now c.args.z.now G c.args.i)
    (members-end f G c.loop-j.j (search rules)) c.loop-j.invariant.rest
