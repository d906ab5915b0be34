use Rattle.exact_fraction.specs.NumberLaws.{≤ℚ_trans}
use Rattle.exact_fraction.proofs.OrderLaws.{*ℚ-≤ℚ_turned}
use Rattle.fixed_interval.proofs.Sides.{falling_products}
use Rattle.fixed_interval.proofs.corners.products_falling.Goals as goal

pub products_from-requires : goal.products_from-requires
products_from-requires c =
    rw (c.lo.ensures.value, c.hi.ensures.value)
    (*ℚ-≤ℚ_turned _ _ _ (≤ℚ_trans _ _ _ c.hi-ordered.ensures.ordered.ordered c.requires) c.lo.ensures.ordered.ordered)

pub returns : goal.returns
returns c = let e = falling_products c.args.a.now c.args.b.now c.lo.ensures.ordered c.hi-ordered.ensures.ordered c.requires in cc
