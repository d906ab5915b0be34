use Rattle.std.specs.Prelude.{refl}
use Rattle.fixed_interval.specs.Rules.{holds_zero}
use Rattle.fixed_interval.proofs.corners.holds_zero.Goals as goal

pub returns-then-is_not_positive-clause-value : goal.returns-then-is_not_positive-clause-value
unfolding holds_zero
returns-then-is_not_positive-clause-value c = rw (← c.lo.ensures.value, ← c.hi.ensures.value, ← c.is_not_positive.ensures, ← c.is_not_negative.ensures, c.if-is_not_positive.true) refl

pub returns-else-is_not_positive-clause-value : goal.returns-else-is_not_positive-clause-value
unfolding holds_zero
returns-else-is_not_positive-clause-value c = rw (← c.lo.ensures.value, ← c.is_not_positive.ensures, c.if-is_not_positive.false) refl
