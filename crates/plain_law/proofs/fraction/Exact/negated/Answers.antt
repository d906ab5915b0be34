use Rattle.plain_law.specs.Numbers.{number}
use Rattle.plain_law.proofs.Quotient.{negative}
use Rattle.plain_law.proofs.fraction.Exact.negated.Goals as goal

pub returns : goal.returns
unfolding number
returns c = negative c.args.self.negative c.args.self.numerator c.args.self.denominator
