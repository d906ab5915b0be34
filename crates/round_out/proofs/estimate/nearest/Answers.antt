use Rattle.std.proofs.Common.{rules, arith}
use Rattle.std.proofs.lemmas.Int.{to_z-of_z}
use Rattle.round_out.proofs.Units.{by_division}
use Rattle.round_out.proofs.estimate.nearest.Goals as goal

pub returns : goal.returns
returns c = by_division _ c.div_euclid.result _ _ (search rules) (grind (arith, to_z-of_z, c.div_euclid.ensures))
