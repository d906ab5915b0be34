use Rattle.std.proofs.Common.{arith}
use Rattle.std.proofs.lemmas.Int.{ints, to_z-of_z}
use Rattle.std.proofs.lemmas.Option.{IfSome_then}
use Rattle.plain_law.specs.Numbers.{number}
use Rattle.plain_law.proofs.Jets.{slope_still, slope_up, slope_down}
use Rattle.plain_law.proofs.jet.power_slope.Goals as goal

pub returns-then-exponent-eq0 : goal.returns-then-exponent-eq0
returns-then-exponent-eq0 c =
    slope_still (number c.args.x) _ c.args.exponent _ (grind (arith, to_z-of_z)) c.whole-factor.ensures (grind (arith, ints, to_z-of_z))

pub returns-then-exponent-gt0 : goal.returns-then-exponent-gt0
returns-then-exponent-gt0 c =
    IfSome_then c.times.result c.times.ensures
    (λ r e. slope_up (number c.args.x) _ _ _ c.args.exponent _ _ (grind (arith, to_z-of_z)) (grind (arith, ints, to_z-of_z))
    (grind (arith, to_z-of_z)) c.whole-factor.ensures c.in_ok-product_of.ensures e)

pub returns : goal.returns
returns c =
    IfSome_then c.over.result c.over.ensures.quotient
    (λ r e. slope_down (number c.args.x) _ _ _ _ c.args.exponent _ _ (grind (arith, to_z-of_z)) (grind (arith, to_z-of_z))
    (grind (arith, ints, to_z-of_z)) c.whole-factor.ensures c.in_ok-power.ensures.power c.in_ok-times.ensures e)
