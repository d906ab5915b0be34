use Rattle.std.proofs.Common.{arith}
use Rattle.std.proofs.lemmas.Int.{ints}
use Rattle.formula_box.proofs.Ticks.{rising_ticks}
use Rattle.formula_box.proofs.factor.rising_factor.Goals as goal

pub returns-in_err-power-clause-ticks : goal.returns-in_err-power-clause-ticks
returns-in_err-power-clause-ticks g c =
    omega (arith, rising_ticks c.args.k _ _ _ c.pow.ensures.most_ticks (omega (arith, ints)) c.requires.least c.requires.most, c.point-number.ensures.ticks)

pub returns-clause-ticks : goal.returns-clause-ticks
returns-clause-ticks g c =
    omega (arith, rising_ticks c.args.k _ _ _ c.pow.ensures.most_ticks (omega (arith, ints)) c.requires.least c.requires.most, c.point-number.ensures.ticks, c.mul.ensures.ticks)
