use Rattle.decimal18.proofs.LiteralDigits.{leading_is_digits}
use Rattle.decimal18.proofs.literal.split_digits.Goals as goal

pub returns-clause-all : goal.returns-clause-all
returns-clause-all c = rw c.count_of_digits-count.ensures.count (leading_is_digits c.args.text.now)
