use Rattle.std.proofs.Common.{◌*◌, arith, ap}
use Rattle.decimal18.proofs.LiteralDigits.{one_zero_more, one_digit_more, no_zero_last, many_zeros}
use Rattle.decimal18.proofs.significand.Significand.push.Goals as goal

pub returns-then-digit-eq0-clause-read : goal.returns-then-digit-eq0-clause-read
returns-then-digit-eq0-clause-read c = omega (arith, one_zero_more c.args.self.digits c.args.self.zeros)

pub returns-then-self-gt-MOST_ZEROS-clause-read : goal.returns-then-self-gt-MOST_ZEROS-clause-read
returns-then-self-gt-MOST_ZEROS-clause-read c =
    no_zero_last _ (omega arith) (many_zeros c.args.self.digits c.args.self.zeros c.args.digit c.if-self-eq0.false c.if-self-gt-MOST_ZEROS.true)

pub invariant_of-result-then-digits-lt-LIMIT-clause-ended : goal.invariant_of-result-then-digits-lt-LIMIT-clause-ended
invariant_of-result-then-digits-lt-LIMIT-clause-ended c =
    let size = one_digit_more c.args.self.digits c.args.self.zeros c.args.digit in
    omega (arith, size, ap (λ t. c.args.self.digits * t) c.pow.ensures)

pub returns-then-digits-lt-LIMIT-clause-read : goal.returns-then-digits-lt-LIMIT-clause-read
returns-then-digits-lt-LIMIT-clause-read c =
    let size = one_digit_more c.args.self.digits c.args.self.zeros c.args.digit in
    omega (arith, size, ap (λ t. c.args.self.digits * t) c.pow.ensures)

pub returns-else-digits-lt-LIMIT-clause-read : goal.returns-else-digits-lt-LIMIT-clause-read
returns-else-digits-lt-LIMIT-clause-read c =
    let size = one_digit_more c.args.self.digits c.args.self.zeros c.args.digit in
    no_zero_last _ (omega arith) (omega (arith, size, ap (λ t. c.args.self.digits * t) c.pow.ensures))
