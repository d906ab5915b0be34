use Rattle.exact_fraction.specs.NumberLaws.{≤ℚ_refl}
use Rattle.fixed_interval.proofs.Sides.{products_across}
use Rattle.fixed_interval.proofs.corners.products_across.Goals as goal

pub products_from-requires : goal.products_from-requires
products_from-requires c = rw (c.lo.ensures.value, c.lo-2.ensures.value) (≤ℚ_refl _)

pub products_from-requires-2 : goal.products_from-requires-2
products_from-requires-2 c = rw (c.hi.ensures.value, c.hi-2.ensures.value) (≤ℚ_refl _)

pub returns : goal.returns
returns c = let e = products_across c.args.a.now c.args.b.now in cc
