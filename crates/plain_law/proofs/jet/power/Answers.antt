use Rattle.std.proofs.Common.{sym, ◌∙◌, arith}
use Rattle.std.proofs.lemmas.Int.{ints, to_z-of_z}
use Rattle.plain_law.proofs.Jets.{power_undefined}
use Rattle.plain_law.proofs.jet.power.Goals as goal

pub returns-then-is_zero : goal.returns-then-is_zero
returns-then-is_zero c v d known f h =
    power_undefined v d known f c.args.exponent c.args.a h (grind (arith, ints, to_z-of_z)) (sym c.is_zero.ensures ∙ c.if-is_zero.true)
