use Rattle.plain_law.specs.Numbers.{number}
use Rattle.plain_law.proofs.Quotient.{zero_test}
use Rattle.plain_law.proofs.fraction.Exact.is_zero.Goals as goal

pub returns : goal.returns
unfolding number
returns c = zero_test c.args.self.negative c.args.self.numerator c.args.self.denominator c.args.self.positive
