use Rattle.exact_fraction.specs.NumberLaws.{≤ℚ_trans}
use Rattle.fixed_interval.proofs.Inclusions.{ends_not_zero}
use Rattle.fixed_interval.proofs.Sides.{quotients_fall, falling_quotients}
use Rattle.fixed_interval.proofs.corners.quotients_falling.Goals as goal

pub quotients_from-requires-clause-ordered : goal.quotients_from-requires-clause-ordered
quotients_from-requires-clause-ordered c =
    let ordered = c.hi-ordered.ensures.ordered in
    rw (c.lo.ensures.value, c.hi.ensures.value)
    (quotients_fall c.args.a.now _ c.lo.ensures.ordered (ends_not_zero c.args.b.now c.requires.nonzero ordered).0 (≤ℚ_trans _ _ _ ordered.ordered c.requires.sign))

pub returns : goal.returns
returns c = let e = falling_quotients c.args.a.now c.args.b.now c.lo.ensures.ordered c.hi-ordered.ensures.ordered c.requires.nonzero c.requires.sign in cc
