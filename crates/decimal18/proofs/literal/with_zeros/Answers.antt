use Rattle.decimal18.proofs.LiteralDigits.{many_zeros_after}
use Rattle.decimal18.proofs.literal.with_zeros.Goals as goal

pub returns-then-zeros-ge-DIGITS-clause-none : goal.returns-then-zeros-ge-DIGITS-clause-none
returns-then-zeros-ge-DIGITS-clause-none c = λ _. many_zeros_after c.args.digits c.args.zeros c.requires.some c.if-zeros-ge-DIGITS.true
