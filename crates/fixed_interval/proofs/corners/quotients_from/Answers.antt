use Rattle.std.proofs.Common.{ap, ◌∙◌}
use Rattle.exact_fraction.specs.Number.{◌/ℚ◌}
use Rattle.decimal18.specs.Bound.{value_of}
use Rattle.decimal18.specs.Down.{down, up}
use Rattle.fixed_interval.proofs.Sides.{least_quotient, greatest_quotient, from_least, one_not_zero}
use Rattle.fixed_interval.proofs.Enclosures.{outward-ends, outward_in_order}
use Rattle.fixed_interval.proofs.Inclusions.{coefficient_not_zero}
use Rattle.fixed_interval.proofs.corners.quotients_from.Goals as goal

pub div_down-least-requires : goal.div_down-least-requires
div_down-least-requires c =
    coefficient_not_zero c.high_end.result (rw c.high_end.ensures.value (one_not_zero _ c.args.s.now c.requires.nonzero c.high_end.ensures.ordered).0)

pub div_up-greatest-requires : goal.div_up-greatest-requires
div_up-greatest-requires c =
    coefficient_not_zero c.low_end.result (rw c.low_end.ensures.value (one_not_zero _ c.args.s.now c.requires.nonzero c.low_end.ensures.ordered).1)

pub from_ends-requires : goal.from_ends-requires
from_ends-requires c =
    outward_in_order _ _ _ _
    (c.div_down-least.ensures.exact ∙ ap down (ap (λ b. value_of c.args.first /ℚ value_of b) c.high_end.ensures.value ∙ least_quotient (value_of c.args.first) c.args.s.now c.requires.nonzero c.low_end.ensures.ordered))
    (c.div_up-greatest.ensures.exact ∙ ap up (ap (λ b. value_of c.args.last /ℚ value_of b) c.low_end.ensures.value ∙ greatest_quotient (value_of c.args.last) c.args.s.now c.requires.nonzero c.low_end.ensures.ordered))
    (from_least _ _ _ _ c.requires.ordered)

pub returns-clause-span : goal.returns-clause-span
returns-clause-span c =
    c.from_ends.ensures ∙ outward-ends _ _ _ _
    (c.div_down-least.ensures.exact ∙ ap down (ap (λ b. value_of c.args.first /ℚ value_of b) c.high_end.ensures.value ∙ least_quotient (value_of c.args.first) c.args.s.now c.requires.nonzero c.low_end.ensures.ordered))
    (c.div_up-greatest.ensures.exact ∙ ap up (ap (λ b. value_of c.args.last /ℚ value_of b) c.low_end.ensures.value ∙ greatest_quotient (value_of c.args.last) c.args.s.now c.requires.nonzero c.low_end.ensures.ordered))
