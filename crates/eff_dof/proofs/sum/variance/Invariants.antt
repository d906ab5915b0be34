use Rattle.std.specs.Prelude.{◌+◌, ◌-◌, ◌≤◌, None, drop, length}
use Rattle.fixed_interval.proofs.SumLoops.{Leaves}
use Rattle.eff_dof.specs.Degrees.{variances}
use Rattle.eff_dof.proofs.sum.variance.Given as goal

abbrev pub invariant-loop-part : goal.invariant-loop-part
invariant-loop-part g l = record {
  rest : Leaves l.sum (variances (drop l.part-index l.parts)) None (variances l.parts);
  ticks : l.steps + (length l.parts - l.part-index) ≤ l.fn.steps + length l.parts;
}
