use Rattle.exact_fraction.specs.NumberLaws.{*ℚ-≤ℚ}
use Rattle.fixed_interval.proofs.Sides.{rising_products}
use Rattle.fixed_interval.proofs.corners.products_rising.Goals as goal

pub products_from-requires : goal.products_from-requires
products_from-requires c = rw (c.lo.ensures.value, c.hi.ensures.value) (*ℚ-≤ℚ _ _ _ c.requires c.lo.ensures.ordered.ordered)

pub returns : goal.returns
returns c = let e = rising_products c.args.a.now c.args.b.now c.lo.ensures.ordered c.products_from.ensures.ordered c.requires in cc
