use Rattle.std.specs.Prelude.{◌≡◌, ℕ, ◌+◌, None, Result, Ok, length}
use Rattle.std.specs.Option.{ok_or}
use Rattle.fixed_interval.specs.Interval.{Interval}
use Rattle.fixed_interval.specs.declared.faults.Overflow.{Overflow}
use Rattle.std.proofs.Common.{rules, arith}
use Rattle.covariance.specs.Gradients.{Gradient, found_at}
use Rattle.covariance.specs.Groups.{Group, group_of, members}
use Rattle.covariance.specs.Variances.{group_variance_span}
use Rattle.covariance.specs.Partial.{row_at, rows_from}
use Rattle.fixed_interval.proofs.SumLoops.{step_there}
use Rattle.covariance.proofs.Sums.{rows-next, refused_group, group_there}
use Rattle.covariance.proofs.Counting.{row_more, rows_spent}
use Rattle.covariance.proofs.Enclosed.{group_encloses}
use Rattle.covariance.proofs.NotNegative.{group_variance-from_zero, answer-from_zero}
use Rattle.covariance.proofs.variances.group_variance.Goals as goal

pub returns-in_err-sum-clause-span : goal.returns-in_err-sum-clause-span
returns-in_err-sum-clause-span g c =
    refused_group _ c.from_residual.ensures.0 c.args.y.now (group_of c.args.group.now) c.loop-i.sum c.loop-i.i (search rules) c.loop-i.invariant.rest c.in_err-sum.ensures.sum

pub loop-i-preserved : goal.loop-i-preserved
loop-i-preserved g c =
    let G : Group ℕ = group_of c.args.group.now in
    let y : Gradient = c.args.y.now in
    record {
      rest = step_there c.loop-i.sum c.in_ok-sum.sum None (rows_from y G c.loop-i.i) (row_at y G c.loop-i.i) (rows_from y G (c.loop-i.i + 1)) (rows_from y G 0)
          (rows-next y G c.loop-i.i (search rules)) c.loop-i.invariant.rest c.in_ok-sum.ensures.sum;
      ticks = row_more c.loop-i.steps c.with_member.new.steps c.args.steps.now c.loop-i.i 14 (length (members G)) c.loop-i.invariant.ticks c.with_member.ensures.ticks;
    }

pub returns-clause-span : goal.returns-clause-span
returns-clause-span g c =
    group_there c.args.y.now (group_of c.args.group.now) c.loop-i.sum c.loop-i.i c.unwrap_or-sum.result c.floor_at.result c.whole-floor.result (search rules) c.loop-i.invariant.rest
    (search rules) (search rules) c.floor_at.ensures.span

pub returns-clause-encloses : goal.returns-clause-encloses
returns-clause-encloses g c =
    let e : ◌≡◌ {A = Result Interval Overflow} (Ok c.floor_at.result) (ok_or (group_variance_span (found_at c.args.y.now) (group_of c.args.group.now)) (record {})) =
    group_there c.args.y.now (group_of c.args.group.now) c.loop-i.sum c.loop-i.i c.unwrap_or-sum.result c.floor_at.result c.whole-floor.result (search rules) c.loop-i.invariant.rest
    (search rules) (search rules) c.floor_at.ensures.span in
    λ u h. group_encloses (group_of c.args.group.now) c.requires.regular (found_at c.args.y.now) (Ok c.floor_at.result) e u h

pub returns-in_err-sum-clause-ticks : goal.returns-in_err-sum-clause-ticks
returns-in_err-sum-clause-ticks g c =
    let most = rows_spent _ c.args.steps.now (c.loop-i.i + 1) 14 (length (members (group_of c.args.group.now))) (search rules)
    (row_more c.loop-i.steps c.with_member.new.steps c.args.steps.now c.loop-i.i 14 (length (members (group_of c.args.group.now))) c.loop-i.invariant.ticks c.with_member.ensures.ticks) in
    omega (arith, most)

pub returns-clause-ticks : goal.returns-clause-ticks
returns-clause-ticks g c =
    let most = rows_spent c.loop-i.steps c.args.steps.now c.loop-i.i 14 (length (members (group_of c.args.group.now))) (search rules) c.loop-i.invariant.ticks in
    omega (arith, most, c.floor_at.ensures.ticks)

pub returns-clause-not_negative : goal.returns-clause-not_negative
returns-clause-not_negative g c =
    answer-from_zero (group_variance_span (found_at c.args.y.now) (group_of c.args.group.now)) (Ok c.floor_at.result)
    (group_variance-from_zero (group_of c.args.group.now) (found_at c.args.y.now))
    (group_there c.args.y.now (group_of c.args.group.now) c.loop-i.sum c.loop-i.i c.unwrap_or-sum.result c.floor_at.result c.whole-floor.result (search rules) c.loop-i.invariant.rest
    (search rules) (search rules) c.floor_at.ensures.span)
