use Rattle.std.proofs.Common.{◌∙◌}
use Rattle.guard_band.specs.Distances.{exact_span}
use Rattle.guard_band.proofs.Joined.{at_one, at_none}
use Rattle.guard_band.proofs.decide.holds_at.Goals as goal

pub returns-in-Some : goal.returns-in-Some
returns-in-Some c = rw c.in-Some.is (c.holds.ensures ∙ at_one _ (exact_span c.in-Some.distance))

pub returns-in-None : goal.returns-in-None
returns-in-None c = rw c.in-None.is (at_none _)
