use Rattle.std.specs.Prelude.{◌≡◌, drop}
use Rattle.eff_dof.specs.Parts.{AreOrdered, AreParts}
use Rattle.eff_dof.specs.Degrees.{least_after, least_degrees}
use Rattle.eff_dof.proofs.least.least_degrees.Given as goal

abbrev pub invariant-loop-part : goal.invariant-loop-part
invariant-loop-part l = record {
  value : least_after l.least (drop l.part-index l.parts) ≡ least_degrees l.parts;
  parts : AreParts (drop l.part-index l.parts);
  ordered : AreOrdered (drop l.part-index l.parts) → AreOrdered l.parts;
}
