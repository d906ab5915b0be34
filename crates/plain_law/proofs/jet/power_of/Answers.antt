use Rattle.std.proofs.Common.{arith}
use Rattle.std.proofs.lemmas.Int.{to_z-of_z}
use Rattle.plain_law.proofs.Jets.{power_jet}
use Rattle.plain_law.proofs.jet.power_of.Goals as goal

pub returns : goal.returns
returns c v d known f h =
    power_jet v d known f c.args.exponent _ _ c.args.a _ c.in_ok-power_slope.field-0 (grind (arith, to_z-of_z)) (grind (arith, to_z-of_z)) h
    c.in_ok-value.ensures.defined c.in_ok-value.ensures.power c.in_ok-power_slope.ensures c.in_ok-slope.ensures
