use Rattle.std.proofs.Common.{ap, ap₂, ◌∙◌}
use Rattle.exact_fraction.specs.Number.{◌+ℚ◌}
use Rattle.decimal18.specs.Bound.{value_of}
use Rattle.decimal18.specs.Down.{down, up}
use Rattle.fixed_interval.proofs.Enclosures.{outward-ends, outward_in_order, sum_in_order}
use Rattle.fixed_interval.proofs.Sides.{point_sum}
use Rattle.fixed_interval.proofs.corners.sums.Goals as goal

pub returns-then-is_point-2 : goal.returns-then-is_point-2
returns-then-is_point-2 c =
    c.sum.ensures
    ∙ rw (c.lo.ensures.value, c.lo-then-is_point-2.ensures.value)
    (point_sum c.args.a.now c.args.b.now (c.is_point.ensures c.if-is_point.true) (c.is_point-then-is_point.ensures c.if-is_point-2.true))

pub from_ends-requires : goal.from_ends-requires
from_ends-requires c =
    outward_in_order _ _ _ _
    (c.add_down.ensures.exact ∙ ap down (ap₂ (λ a b. value_of a +ℚ value_of b) c.lo-2.ensures.value c.lo-3.ensures.value))
    (c.add_up.ensures.exact ∙ ap up (ap₂ (λ a b. value_of a +ℚ value_of b) c.hi.ensures.value c.hi-2.ensures.value))
    (sum_in_order c.args.a.now c.args.b.now c.lo-2.ensures.ordered c.lo-3.ensures.ordered)

pub returns : goal.returns
returns c =
    c.from_ends.ensures ∙ outward-ends _ _ _ _
    (c.add_down.ensures.exact ∙ ap down (ap₂ (λ a b. value_of a +ℚ value_of b) c.lo-2.ensures.value c.lo-3.ensures.value))
    (c.add_up.ensures.exact ∙ ap up (ap₂ (λ a b. value_of a +ℚ value_of b) c.hi.ensures.value c.hi-2.ensures.value))
