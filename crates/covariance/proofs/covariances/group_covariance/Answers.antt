use Rattle.std.specs.Prelude.{ℕ, ◌+◌, None, length}
use Rattle.std.proofs.Common.{rules}
use Rattle.covariance.specs.Gradients.{Gradient}
use Rattle.covariance.specs.Groups.{Group, group_of, members}
use Rattle.covariance.specs.Variances.{group_covariance_span}
use Rattle.covariance.specs.Partial.{cross_row_at, cross_rows_from}
use Rattle.fixed_interval.proofs.SumLoops.{step_there, refused_sum, sum_there}
use Rattle.covariance.proofs.Sums.{cross_rows-next, cross_rows-end}
use Rattle.covariance.proofs.Counting.{row_more, rows_spent}
use Rattle.covariance.proofs.covariances.group_covariance.Goals as goal

pub returns-in_err-sum-clause-span : goal.returns-in_err-sum-clause-span
unfolding group_covariance_span
returns-in_err-sum-clause-span g c =
    let G : Group ℕ = group_of c.args.group.now in
    let y : Gradient = c.args.y.now in
    let z : Gradient = c.args.z.now in
    refused_sum _ c.from_residual.ensures.0 c.loop-i.sum (cross_rows_from y z G c.loop-i.i) (cross_row_at y z G c.loop-i.i) (cross_rows_from y z G (c.loop-i.i + 1))
    (cross_rows_from y z G 0) (cross_rows-next y z G c.loop-i.i (search rules)) c.loop-i.invariant.rest c.in_err-sum.ensures.sum

pub loop-i-preserved : goal.loop-i-preserved
loop-i-preserved g c =
    let G : Group ℕ = group_of c.args.group.now in
    let y : Gradient = c.args.y.now in
    let z : Gradient = c.args.z.now in
    record {
      rest = step_there c.loop-i.sum c.in_ok-sum.sum None (cross_rows_from y z G c.loop-i.i) (cross_row_at y z G c.loop-i.i) (cross_rows_from y z G (c.loop-i.i + 1))
          (cross_rows_from y z G 0) (cross_rows-next y z G c.loop-i.i (search rules)) c.loop-i.invariant.rest c.in_ok-sum.ensures.sum;
      ticks = row_more c.loop-i.steps c.with_member.new.steps c.args.steps.now c.loop-i.i 12 (length (members G)) c.loop-i.invariant.ticks c.with_member.ensures.ticks;
    }

pub returns-clause-span : goal.returns-clause-span
unfolding group_covariance_span
returns-clause-span g c =
    let G : Group ℕ = group_of c.args.group.now in
    let y : Gradient = c.args.y.now in
    let z : Gradient = c.args.z.now in
    sum_there c.loop-i.sum c.unwrap_or.result (cross_rows_from y z G c.loop-i.i) (cross_rows_from y z G 0) (cross_rows-end y z G c.loop-i.i (search rules)) c.loop-i.invariant.rest (search rules)

pub returns-in_err-sum-clause-ticks : goal.returns-in_err-sum-clause-ticks
returns-in_err-sum-clause-ticks g c =
    rows_spent _ c.args.steps.now (c.loop-i.i + 1) 12 (length (members (group_of c.args.group.now))) (search rules)
    (row_more c.loop-i.steps c.with_member.new.steps c.args.steps.now c.loop-i.i 12 (length (members (group_of c.args.group.now))) c.loop-i.invariant.ticks c.with_member.ensures.ticks)

pub returns-clause-ticks : goal.returns-clause-ticks
returns-clause-ticks g c = rows_spent c.loop-i.steps c.args.steps.now c.loop-i.i 12 (length (members (group_of c.args.group.now))) (search rules) c.loop-i.invariant.ticks
