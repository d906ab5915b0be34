use Rattle.std.specs.Prelude.{◌+◌, ◌*◌, ◌≤◌, None, length}
use Rattle.covariance.specs.Groups.{group_of, members}
use Rattle.covariance.specs.Partial.{rows_from}
use Rattle.fixed_interval.proofs.SumLoops.{Leaves}
use Rattle.covariance.proofs.variances.group_variance.Given as goal

abbrev pub invariant-loop-i : goal.invariant-loop-i
invariant-loop-i g l = record {
  rest : Leaves l.sum (rows_from l.y (group_of l.group) l.i) None (rows_from l.y (group_of l.group) 0);
  ticks : l.steps ≤ l.fn.steps + l.i * (14 * length (members (group_of l.group)));
}
