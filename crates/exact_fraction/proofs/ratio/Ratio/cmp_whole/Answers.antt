use Rattle.std.proofs.Common.{arith}
use Rattle.std.proofs.lemmas.Int.{to_z-of_z}
use Rattle.exact_fraction.specs.Ratio.{fraction_of_ratio}
use Rattle.exact_fraction.proofs.Comparisons.{compared}
use Rattle.exact_fraction.proofs.ratio.Ratio.cmp_whole.Goals as goal

pub returns : goal.returns
returns c = compared (fraction_of_ratio c.args.self) c.args.b c.cmp.result c.cmp-2.result _ (grind (arith, to_z-of_z)) (grind (arith, to_z-of_z, c.rem_euclid-remainder.ensures.value)) c.then.ensures
