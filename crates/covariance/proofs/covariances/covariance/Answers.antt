use Rattle.std.specs.Prelude.{◌≡◌, ◌+◌, ◌*◌, ◌||◌, List, map, drop, None, Result, Ok}
use Rattle.std.specs.Option.{ok_or}
use Rattle.fixed_interval.specs.Interval.{Interval}
use Rattle.fixed_interval.specs.declared.faults.Overflow.{Overflow}
use Rattle.std.proofs.Common.{rules, sym, arith}
use Rattle.covariance.specs.declared.group.Group.{Group as CodeGroup}
use Rattle.covariance.specs.Gradients.{Gradient, found_at}
use Rattle.covariance.specs.Groups.{group_of}
use Rattle.covariance.specs.Variances.{meets, combined_covariance_span}
use Rattle.covariance.specs.Costs.{pairs_of}
use Rattle.covariance.specs.Partial.{cross_part_of, cross_parts_of}
use Rattle.fixed_interval.proofs.SumLoops.{step_there, refused_sum, sum_there}
use Rattle.covariance.proofs.Sums.{cross_parts-next, cross_parts-end, regular-next}
use Rattle.covariance.proofs.Counting.{groups_more}
use Rattle.covariance.proofs.Enclosed.{covariance_encloses}
use Rattle.covariance.proofs.covariances.covariance.Goals as goal

pub returns-in_err-sum-clause-span : goal.returns-in_err-sum-clause-span
returns-in_err-sum-clause-span g c =
    let gs : List CodeGroup = c.args.groups.now in
    let y : Gradient = c.args.y.now in
    let z : Gradient = c.args.z.now in
    refused_sum _ c.from_residual.ensures.0 c.loop-group.sum (cross_parts_of y z (map group_of (drop c.loop-group.group-index gs))) (cross_part_of y z (group_of c.group-item.result))
    (cross_parts_of y z (map group_of (drop (c.loop-group.group-index + 1) gs))) (cross_parts_of y z (map group_of gs))
    (cross_parts-next y z gs c.loop-group.group-index c.group-item.result (search rules) (sym c.group-item.is)) c.loop-group.invariant.rest c.in_err-sum.ensures.sum

pub loop-group-preserved : goal.loop-group-preserved
loop-group-preserved g c =
    let gs : List CodeGroup = c.args.groups.now in
    let y : Gradient = c.args.y.now in
    let z : Gradient = c.args.z.now in
    record {
      rest = step_there c.loop-group.sum c.in_ok-sum.sum None (cross_parts_of y z (map group_of (drop c.loop-group.group-index gs))) (cross_part_of y z (group_of c.group-item.result))
          (cross_parts_of y z (map group_of (drop (c.loop-group.group-index + 1) gs))) (cross_parts_of y z (map group_of gs))
          (cross_parts-next y z gs c.loop-group.group-index c.group-item.result (search rules) (sym c.group-item.is)) c.loop-group.invariant.rest c.in_ok-sum.ensures.sum;
      ticks = groups_more (λ g. meets (found_at c.args.y.now) g || meets (found_at c.args.z.now) g) gs c.loop-group.group-index c.group-item.result (search rules) (sym c.group-item.is)
          c.loop-group.steps c.with_group.new.steps c.args.steps.now (16 * pairs_of (λ g. meets (found_at c.args.y.now) g || meets (found_at c.args.z.now) g) (map group_of gs)) c.loop-group.invariant.ticks c.with_group.ensures.ticks;
      regular = (regular-next gs c.loop-group.group-index c.group-item.result (search rules) (sym c.group-item.is) c.loop-group.invariant.regular).1;
    }

pub returns-clause-span : goal.returns-clause-span
returns-clause-span g c =
    let gs : List CodeGroup = c.args.groups.now in
    let y : Gradient = c.args.y.now in
    let z : Gradient = c.args.z.now in
    sum_there c.loop-group.sum c.unwrap_or.result (cross_parts_of y z (map group_of (drop c.loop-group.group-index gs))) (cross_parts_of y z (map group_of gs))
    (cross_parts-end y z gs c.loop-group.group-index (search rules)) c.loop-group.invariant.rest (search rules)

pub returns-clause-encloses : goal.returns-clause-encloses
returns-clause-encloses g c =
    let gs : List CodeGroup = c.args.groups.now in
    let y : Gradient = c.args.y.now in
    let z : Gradient = c.args.z.now in
    let e : ◌≡◌ {A = Result Interval Overflow} (Ok c.unwrap_or.result) (ok_or (combined_covariance_span (found_at y) (found_at z) (map group_of gs)) (record {})) =
    sum_there c.loop-group.sum c.unwrap_or.result (cross_parts_of y z (map group_of (drop c.loop-group.group-index gs))) (cross_parts_of y z (map group_of gs))
    (cross_parts-end y z gs c.loop-group.group-index (search rules)) c.loop-group.invariant.rest (search rules) in
    λ u w h k. covariance_encloses (map group_of gs) c.requires.regular (found_at y) (found_at z) (Ok c.unwrap_or.result) e u w h k

pub returns-in_err-sum-clause-ticks : goal.returns-in_err-sum-clause-ticks
returns-in_err-sum-clause-ticks g c =
    let most = groups_more (λ g. meets (found_at c.args.y.now) g || meets (found_at c.args.z.now) g) c.args.groups.now c.loop-group.group-index c.group-item.result (search rules) (sym c.group-item.is)
    c.loop-group.steps c.with_group.new.steps c.args.steps.now (16 * pairs_of (λ g. meets (found_at c.args.y.now) g || meets (found_at c.args.z.now) g) (map group_of c.args.groups.now)) c.loop-group.invariant.ticks c.with_group.ensures.ticks in
    omega (arith, most)
