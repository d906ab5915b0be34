use Rattle.std.specs.Prelude.{◌+◌, ◌*◌, ◌<◌, ◌≤◌, map}
use Rattle.covariance.specs.Groups.{group_of}
use Rattle.covariance.specs.Partial.{placed_at, placed_from, twice_at, row_at}
use Rattle.fixed_interval.proofs.SumLoops.{Leaves}
use Rattle.covariance.proofs.variances.with_member.Given as goal

abbrev pub invariant-loop-j : goal.invariant-loop-j
invariant-loop-j g l = record {
  rest : Leaves l.sum (map (twice_at l.y (group_of l.group) (placed_at (group_of l.group) l.i)) (placed_from (group_of l.group) l.j))
      l.fn.sum (row_at l.y (group_of l.group) l.i);
  later : l.i < l.j;
  ticks : l.steps ≤ l.fn.steps + 14 * l.j;
}
