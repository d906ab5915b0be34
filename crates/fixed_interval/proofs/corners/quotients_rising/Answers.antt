use Rattle.fixed_interval.proofs.Inclusions.{ends_not_zero}
use Rattle.fixed_interval.proofs.Sides.{quotients_rise, rising_quotients}
use Rattle.fixed_interval.proofs.corners.quotients_rising.Goals as goal

pub quotients_from-requires-clause-ordered : goal.quotients_from-requires-clause-ordered
quotients_from-requires-clause-ordered c =
    rw (c.lo.ensures.value, c.hi.ensures.value)
    (quotients_rise c.args.a.now _ c.lo.ensures.ordered (ends_not_zero c.args.b.now c.requires.nonzero c.lo-ordered.ensures.ordered).0 c.requires.sign)

pub returns : goal.returns
returns c = let e = rising_quotients c.args.a.now c.args.b.now c.lo.ensures.ordered c.lo-ordered.ensures.ordered c.requires.nonzero c.requires.sign in cc
