use Rattle.std.specs.Prelude.{◌+◌, ◌*◌, ◌≤◌, map}
use Rattle.covariance.specs.Groups.{group_of}
use Rattle.covariance.specs.Partial.{placed_at, placed_from, joint_at, cross_row_at}
use Rattle.fixed_interval.proofs.SumLoops.{Leaves}
use Rattle.covariance.proofs.covariances.with_member.Given as goal

abbrev pub invariant-loop-j : goal.invariant-loop-j
invariant-loop-j g l = record {
  rest : Leaves l.sum (map (joint_at l.y l.z (group_of l.group) (placed_at (group_of l.group) l.i)) (placed_from (group_of l.group) l.j))
      l.fn.sum (cross_row_at l.y l.z (group_of l.group) l.i);
  ticks : l.steps ≤ l.fn.steps + 12 * l.j;
}
