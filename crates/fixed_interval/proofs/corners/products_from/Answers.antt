use Rattle.std.proofs.Common.{ap, ◌∙◌}
use Rattle.exact_fraction.specs.Number.{◌*ℚ◌}
use Rattle.decimal18.specs.Bound.{value_of}
use Rattle.decimal18.specs.Down.{down, up}
use Rattle.fixed_interval.proofs.Sides.{least_product, greatest_product, from_least}
use Rattle.fixed_interval.proofs.Enclosures.{outward-ends, outward_in_order}
use Rattle.fixed_interval.proofs.corners.products_from.Goals as goal

pub from_ends-requires : goal.from_ends-requires
from_ends-requires c =
    outward_in_order _ _ _ _
    (c.mul_down-least.ensures.exact ∙ ap down (ap (λ b. value_of c.args.first *ℚ value_of b) c.low_end.ensures.value ∙ least_product (value_of c.args.first) c.args.s.now c.low_end.ensures.ordered))
    (c.mul_up-greatest.ensures.exact ∙ ap up (ap (λ b. value_of c.args.last *ℚ value_of b) c.high_end.ensures.value ∙ greatest_product (value_of c.args.last) c.args.s.now c.low_end.ensures.ordered))
    (from_least _ _ _ _ c.requires)

pub returns-clause-span : goal.returns-clause-span
returns-clause-span c =
    c.from_ends.ensures ∙ outward-ends _ _ _ _
    (c.mul_down-least.ensures.exact ∙ ap down (ap (λ b. value_of c.args.first *ℚ value_of b) c.low_end.ensures.value ∙ least_product (value_of c.args.first) c.args.s.now c.low_end.ensures.ordered))
    (c.mul_up-greatest.ensures.exact ∙ ap up (ap (λ b. value_of c.args.last *ℚ value_of b) c.high_end.ensures.value ∙ greatest_product (value_of c.args.last) c.args.s.now c.low_end.ensures.ordered))
