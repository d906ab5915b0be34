use Rattle.std.specs.Prelude.{◌+◌, ◌*◌, ◌≤◌, None, length}
use Rattle.covariance.specs.Groups.{group_of, members}
use Rattle.covariance.specs.Partial.{cross_rows_from}
use Rattle.fixed_interval.proofs.SumLoops.{Leaves}
use Rattle.covariance.proofs.covariances.group_covariance.Given as goal

abbrev pub invariant-loop-i : goal.invariant-loop-i
invariant-loop-i g l = record {
  rest : Leaves l.sum (cross_rows_from l.y l.z (group_of l.group) l.i) None (cross_rows_from l.y l.z (group_of l.group) 0);
  ticks : l.steps ≤ l.fn.steps + l.i * (12 * length (members (group_of l.group)));
}
