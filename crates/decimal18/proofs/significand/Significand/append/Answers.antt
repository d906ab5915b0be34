use Rattle.std.proofs.Common.{rules, ◌≡◌, None}
use Rattle.decimal18.specs.Significand.{number_of}
use Rattle.decimal18.proofs.LiteralDigits.{long_on}
use Rattle.decimal18.proofs.significand.Significand.append.Goals as goal

pub returns-in_err-number-clause-read : goal.returns-in_err-number-clause-read
returns-in_err-number-clause-read c =
    let none : c.from_residual.result ≡ None = search rules in
    rw none (long_on
    c.args.text.now (number_of c.loop-digit.number) c.loop-digit.digit-index _ c.requires.all c.loop-digit-test.true
    c.loop-digit.invariant.read (rw c.in_err-number.was at c.push.ensures.read))
