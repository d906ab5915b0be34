use Rattle.plain_law.specs.Numbers.{number}
use Rattle.plain_law.proofs.Quotient.{lowest, positive_part}
use Rattle.plain_law.proofs.fraction.Exact.reduced.Goals as goal

pub invariant_of-result : goal.invariant_of-result
invariant_of-result c = record { positive = positive_part _ _ c.gcd-divisor.ensures.greatest.1 c.requires }

pub returns : goal.returns
unfolding number
returns c =
    lowest c.args.negative c.args.numerator c.args.denominator c.gcd-divisor.result c.requires c.gcd-divisor.ensures.greatest.0
    c.gcd-divisor.ensures.greatest.1
