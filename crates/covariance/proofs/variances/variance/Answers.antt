use Rattle.std.specs.Prelude.{◌≡◌, ◌+◌, ◌*◌, List, map, drop, None, Result, Ok}
use Rattle.std.specs.Option.{ok_or}
use Rattle.fixed_interval.specs.Interval.{Interval}
use Rattle.fixed_interval.specs.declared.faults.Overflow.{Overflow}
use Rattle.std.proofs.Common.{rules, sym, arith}
use Rattle.covariance.specs.declared.group.Group.{Group as CodeGroup}
use Rattle.covariance.specs.Gradients.{Gradient, found_at}
use Rattle.covariance.specs.Groups.{group_of}
use Rattle.covariance.specs.Variances.{meets, combined_variance_span}
use Rattle.covariance.specs.Costs.{pairs_of}
use Rattle.covariance.specs.Partial.{part_of, parts_of}
use Rattle.fixed_interval.proofs.SumLoops.{step_there, refused_sum, sum_there}
use Rattle.covariance.proofs.Sums.{parts-next, parts-end, regular-next}
use Rattle.covariance.proofs.Counting.{groups_more}
use Rattle.covariance.proofs.NotNegative.{variance-from_zero, answer-from_zero}
use Rattle.covariance.proofs.Enclosed.{variance_encloses}
use Rattle.covariance.proofs.variances.variance.Goals as goal

pub returns-in_err-sum-clause-span : goal.returns-in_err-sum-clause-span
returns-in_err-sum-clause-span g c =
    let gs : List CodeGroup = c.args.groups.now in
    let y : Gradient = c.args.y.now in
    refused_sum _ c.from_residual.ensures.0 c.loop-group.sum (parts_of y (map group_of (drop c.loop-group.group-index gs))) (part_of y (group_of c.group-item.result))
    (parts_of y (map group_of (drop (c.loop-group.group-index + 1) gs))) (parts_of y (map group_of gs))
    (parts-next y gs c.loop-group.group-index c.group-item.result (search rules) (sym c.group-item.is)) c.loop-group.invariant.rest c.in_err-sum.ensures.sum

pub loop-group-preserved : goal.loop-group-preserved
loop-group-preserved g c =
    let gs : List CodeGroup = c.args.groups.now in
    let y : Gradient = c.args.y.now in
    record {
      rest = step_there c.loop-group.sum c.in_ok-sum.sum None (parts_of y (map group_of (drop c.loop-group.group-index gs))) (part_of y (group_of c.group-item.result))
          (parts_of y (map group_of (drop (c.loop-group.group-index + 1) gs))) (parts_of y (map group_of gs))
          (parts-next y gs c.loop-group.group-index c.group-item.result (search rules) (sym c.group-item.is)) c.loop-group.invariant.rest c.in_ok-sum.ensures.sum;
      ticks = groups_more (meets (found_at c.args.y.now)) gs c.loop-group.group-index c.group-item.result (search rules) (sym c.group-item.is)
          c.loop-group.steps c.with_group.new.steps c.args.steps.now (16 * pairs_of (meets (found_at c.args.y.now)) (map group_of gs)) c.loop-group.invariant.ticks c.with_group.ensures.ticks;
      regular = (regular-next gs c.loop-group.group-index c.group-item.result (search rules) (sym c.group-item.is) c.loop-group.invariant.regular).1;
    }

pub returns-clause-span : goal.returns-clause-span
returns-clause-span g c =
    let gs : List CodeGroup = c.args.groups.now in
    let y : Gradient = c.args.y.now in
    sum_there c.loop-group.sum c.unwrap_or.result (parts_of y (map group_of (drop c.loop-group.group-index gs))) (parts_of y (map group_of gs))
    (parts-end y gs c.loop-group.group-index (search rules)) c.loop-group.invariant.rest (search rules)

pub returns-clause-encloses : goal.returns-clause-encloses
returns-clause-encloses g c =
    let gs : List CodeGroup = c.args.groups.now in
    let y : Gradient = c.args.y.now in
    let e : ◌≡◌ {A = Result Interval Overflow} (Ok c.unwrap_or.result) (ok_or (combined_variance_span (found_at y) (map group_of gs)) (record {})) =
    sum_there c.loop-group.sum c.unwrap_or.result (parts_of y (map group_of (drop c.loop-group.group-index gs))) (parts_of y (map group_of gs))
    (parts-end y gs c.loop-group.group-index (search rules)) c.loop-group.invariant.rest (search rules) in
    λ u h. variance_encloses (map group_of gs) c.requires.regular (found_at y) (Ok c.unwrap_or.result) e u h

pub returns-in_err-sum-clause-ticks : goal.returns-in_err-sum-clause-ticks
returns-in_err-sum-clause-ticks g c =
    let most = groups_more (meets (found_at c.args.y.now)) c.args.groups.now c.loop-group.group-index c.group-item.result (search rules) (sym c.group-item.is)
    c.loop-group.steps c.with_group.new.steps c.args.steps.now (16 * pairs_of (meets (found_at c.args.y.now)) (map group_of c.args.groups.now)) c.loop-group.invariant.ticks c.with_group.ensures.ticks in
    omega (arith, most)

pub returns-clause-not_negative : goal.returns-clause-not_negative
returns-clause-not_negative g c =
    let gs : List CodeGroup = c.args.groups.now in
    let y : Gradient = c.args.y.now in
    answer-from_zero (combined_variance_span (found_at y) (map group_of gs)) (Ok c.unwrap_or.result) (variance-from_zero (map group_of gs) (found_at y))
    (sum_there c.loop-group.sum c.unwrap_or.result (parts_of y (map group_of (drop c.loop-group.group-index gs))) (parts_of y (map group_of gs))
    (parts-end y gs c.loop-group.group-index (search rules)) c.loop-group.invariant.rest (search rules))
