use Rattle.std.proofs.Common.{◌∙◌, ap, arith}
use Rattle.exact_fraction.specs.Number.{◌*ℚ◌}
use Rattle.exact_fraction.specs.Powers.{power}
use Rattle.plain_law.specs.Numbers.{number}
use Rattle.exact_fraction.proofs.PowerLaws.{power-next}
use Rattle.plain_law.proofs.fraction.Exact.product_of.Goals as goal

pub loop-init : goal.loop-init
unfolding power
loop-init c = c.whole-product.ensures

pub loop-preserved : goal.loop-preserved
loop-preserved c = c.in_ok-product.ensures ∙ ap (λ t. t *ℚ number c.args.self) c.loop.invariant ∙ power-next (number c.args.self) c.loop.counter

pub returns : goal.returns
returns c = c.loop.invariant ∙ ap (power (number c.args.self)) (omega (arith, c.loop.auto.counter-end, c.loop-test.false))
