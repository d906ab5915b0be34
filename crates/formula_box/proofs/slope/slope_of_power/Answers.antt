use Rattle.std.proofs.Common.{arith, to_z, of_z, w8}
use Rattle.std.proofs.lemmas.Int.{ints}
use Rattle.formula_box.proofs.Ticks.{few_steps_of_power, steps_of_size, same_steps}
use Rattle.formula_box.proofs.slope.slope_of_power.Goals as goal
use Rattle.formula_box.proofs.slope.slope_of_power.Goals.{then-k-gt0, else-k-gt0}

pub returns-then-not-a-clause-ticks : goal.returns-then-not-a-clause-ticks
returns-then-not-a-clause-ticks g c = omega (arith, few_steps_of_power c.args.k c.requires)

pub returns-then-k-eq1-clause-ticks : goal.returns-then-k-eq1-clause-ticks
returns-then-k-eq1-clause-ticks g c = omega (arith, few_steps_of_power c.args.k c.requires)

pub returns-clause-ticks : goal.returns-clause-ticks
returns-clause-ticks g c = elim c.if-k-gt0.branch [
  | then-k-gt0 w ↦
      omega (arith, steps_of_size c.args.k (omega (arith, ints, w.if-k-gt0.true)), same_steps c.args.k (to_z w8 (of_z w8 c.args.k)) w.unsigned_abs.result w.unsigned_abs.ensures.value (omega (arith, ints)), w.rising_factor-factor.ensures.ticks, w.steps-is, c.product_there.ensures.ticks)
  | else-k-gt0 w ↦
      omega (arith, few_steps_of_power c.args.k c.requires, w.falling_factor-factor.ensures.ticks, w.steps-is, c.product_there.ensures.ticks)
]
