use Rattle.std.proofs.Common.{◌∙◌, sym}
use Rattle.fixed_interval.proofs.Inclusions.{ends_not_zero}
use Rattle.fixed_interval.proofs.Sides.{point_quotient, divisor_below}
use Rattle.fixed_interval.proofs.corners.quotients.Goals as goal

pub quotient-requires : goal.quotient-requires
quotient-requires c =
    rw c.lo-then-is_point-2.ensures.value (ends_not_zero c.args.b.now c.requires.nonzero c.lo-then-is_point-2.ensures.ordered).0

pub returns-then-is_point-2 : goal.returns-then-is_point-2
returns-then-is_point-2 c =
    c.quotient.ensures
    ∙ rw (c.lo.ensures.value, c.lo-then-is_point-2.ensures.value)
    (point_quotient c.args.a.now c.args.b.now (c.is_point.ensures c.if-is_point.true) (c.is_point-then-is_point.ensures c.if-is_point-2.true))

pub quotients_falling-requires-clause-sign : goal.quotients_falling-requires-clause-sign
quotients_falling-requires-clause-sign c =
    divisor_below c.args.b.now c.requires.nonzero c.lo-2.ensures.ordered
    (rw c.lo-2.ensures.value at (sym c.is_not_negative.ensures ∙ c.if-is_not_negative.false))
