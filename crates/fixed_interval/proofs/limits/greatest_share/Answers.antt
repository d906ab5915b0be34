use Rattle.fixed_interval.proofs.Inclusions.{coefficient_not_zero}
use Rattle.fixed_interval.proofs.Shares.{greatest_is_one, greatest_is_less, whole_not_zero}
use Rattle.fixed_interval.proofs.limits.greatest_share.Goals as goal

pub div_up-requires : goal.div_up-requires
div_up-requires c = coefficient_not_zero c.lo-2.result
    (rw c.lo-2.ensures.value
    (whole_not_zero c.args.part.now c.args.whole.now c.requires
    (rw (← c.lo.ensures.value, ← c.hi.ensures.value, ← c.is_at_most.ensures) c.if-is_at_most.false)))

pub returns-then-is_at_most : goal.returns-then-is_at_most
returns-then-is_at_most c = rw c.whole.ensures
    (greatest_is_one c.args.part.now c.args.whole.now
    (rw (← c.lo.ensures.value, ← c.hi.ensures.value, ← c.is_at_most.ensures) c.if-is_at_most.true))

pub returns : goal.returns
returns c =
    let e = greatest_is_less c.args.part.now c.args.whole.now
    (rw (← c.lo.ensures.value, ← c.hi.ensures.value, ← c.is_at_most.ensures) c.if-is_at_most.false) in
    rw (← e, ← c.lo-2.ensures.value, ← c.hi-2.ensures.value) c.div_up.ensures.exact
