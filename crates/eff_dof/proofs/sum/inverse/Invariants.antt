use Rattle.std.specs.Prelude.{◌+◌, ◌-◌, ◌*◌, ◌≤◌, None, drop, length}
use Rattle.fixed_interval.proofs.SumLoops.{Leaves}
use Rattle.eff_dof.specs.Parts.{AllParts, IsPartOf}
use Rattle.eff_dof.specs.Degrees.{terms}
use Rattle.eff_dof.proofs.sum.inverse.Given as goal

abbrev pub invariant-loop-part : goal.invariant-loop-part
invariant-loop-part g l = record {
  rest : Leaves l.sum (terms l.whole (drop l.part-index l.parts)) None (terms l.whole l.parts);
  parts : AllParts (IsPartOf l.whole) (drop l.part-index l.parts);
  ticks : l.steps + 5 * (length l.parts - l.part-index) ≤ l.fn.steps + 5 * length l.parts;
}
