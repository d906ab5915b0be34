use Rattle.std.specs.Prelude.{◌+◌, ◌*◌, ◌≤◌, None, map, drop}
use Rattle.covariance.specs.Gradients.{found_at}
use Rattle.covariance.specs.Groups.{group_of, AreRegular}
use Rattle.covariance.specs.Variances.{meets}
use Rattle.covariance.specs.Costs.{pairs_of}
use Rattle.covariance.specs.Partial.{parts_of}
use Rattle.fixed_interval.proofs.SumLoops.{Leaves}
use Rattle.covariance.proofs.variances.variance.Given as goal

abbrev pub invariant-loop-group : goal.invariant-loop-group
invariant-loop-group g l = record {
  rest : Leaves l.sum (parts_of l.y (map group_of (drop l.group-index l.groups))) None (parts_of l.y (map group_of l.groups));
  ticks : l.steps + 16 * pairs_of (meets (found_at l.y)) (map group_of (drop l.group-index l.groups)) ≤ l.fn.steps + 16 * pairs_of (meets (found_at l.y)) (map group_of l.groups);
  regular : AreRegular (map group_of (drop l.group-index l.groups));
}
