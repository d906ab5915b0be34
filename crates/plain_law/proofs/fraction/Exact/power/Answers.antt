use Rattle.std.proofs.Common.{◌∙◌, arith}
use Rattle.std.proofs.lemmas.Int.{ints, to_z-of_z}
use Rattle.std.proofs.lemmas.Option.{IfSome_then}
use Rattle.plain_law.specs.Numbers.{number}
use Rattle.exact_fraction.proofs.PowerLaws.{power_up, power_down}
use Rattle.plain_law.proofs.Powers.{has_power_up, has_power_down}
use Rattle.plain_law.proofs.fraction.Exact.power.Goals as goal

pub returns-then-exponent-ge0-clause-power : goal.returns-then-exponent-ge0-clause-power
returns-then-exponent-ge0-clause-power c =
    power_up (number c.args.self) (number c.in_ok-product.product) c.args.exponent c.unsigned_abs.result
    (grind (arith, ints, to_z-of_z)) (grind (arith, to_z-of_z)) c.in_ok-product.ensures

pub returns-then-exponent-ge0-clause-defined : goal.returns-then-exponent-ge0-clause-defined
returns-then-exponent-ge0-clause-defined c = has_power_up (number c.args.self) c.args.exponent (grind (arith, ints, to_z-of_z))

pub returns-clause-power : goal.returns-clause-power
returns-clause-power c =
    IfSome_then c.inverse.result c.inverse.ensures.inverse
    (λ r e. e ∙ power_down (number c.args.self) (number c.in_ok-product.product) c.args.exponent c.unsigned_abs.result
    (grind (arith, ints, to_z-of_z)) (grind (arith, to_z-of_z)) c.in_ok-product.ensures)

pub returns-clause-defined : goal.returns-clause-defined
returns-clause-defined c =
    IfSome_then c.inverse.result c.inverse.ensures.not_zero
    (λ r e. has_power_down (number c.args.self) (number c.in_ok-product.product) c.args.exponent c.unsigned_abs.result
    (grind (arith, to_z-of_z)) c.in_ok-product.ensures e)
