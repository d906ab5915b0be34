use Rattle.std.proofs.Common.{arith, refl}
use Rattle.std.proofs.lemmas.Int.{ints}
use Rattle.plain_law.specs.Numbers.{number}
use Rattle.plain_law.proofs.CorrelationLemmas.{above_zero, negative_correlation}
use Rattle.plain_law.proofs.digits.correlation.Goals as goal

pub returns : goal.returns
returns c =
    negative_correlation (number c.args.covariance) (number c.args.first) (number c.args.second) (number c.in_ok-square.square)
    c.in_ok-hundredths.field-0 _ c.in_ok-hundredths.ensures
    (rw (c.in_ok-square.ensures.quotient, c.in_ok-times.ensures, c.in_ok-times-2.ensures) refl)
    (cc)
    (omega (arith, ints))
    (above_zero _ _ _ c.whole-zero.ensures (c.in_ok-first_is_zero.ensures) (c.if-first_is_zero.false))
    (above_zero _ _ _ c.whole-zero.ensures (c.in_ok-second_is_zero.ensures) (c.if-second_is_zero.false))
