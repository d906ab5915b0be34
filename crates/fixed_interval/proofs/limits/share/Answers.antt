use Rattle.std.proofs.Common.{sym, ◌∙◌}
use Rattle.exact_fraction.specs.NumberLaws.{≤ℚ_trans}
use Rattle.fixed_interval.proofs.Enclosures.{outward-ends, outward_in_order}
use Rattle.fixed_interval.proofs.Inclusions.{coefficient_not_zero}
use Rattle.fixed_interval.proofs.Shares.{is_part, share_is_there, share_span_encloses, shares_in_order, above_not_zero}
use Rattle.fixed_interval.proofs.limits.share.Goals as goal

pub div_down-least-requires : goal.div_down-least-requires
div_down-least-requires g c = coefficient_not_zero c.hi.result (rw c.hi.ensures.value (above_not_zero _ c.requires.positive))

pub greatest_share-requires : goal.greatest_share-requires
greatest_share-requires g c = ≤ℚ_trans _ _ _ c.requires.not_negative c.lo.ensures.ordered.ordered

pub from_ends-requires : goal.from_ends-requires
from_ends-requires g c =
    let part = c.args.part.now in
    let whole = c.args.whole.now in
    let is = is_part part whole c.requires.not_negative c.requires.within c.requires.positive c.lo.ensures.ordered in
    outward_in_order _ _ _ _ (rw (← c.lo.ensures.value, ← c.hi.ensures.value) c.div_down-least.ensures.exact) c.greatest_share.ensures
    (shares_in_order part whole is c.hi.ensures.ordered)

pub unwrap-requires : goal.unwrap-requires
unwrap-requires g c =
    let part = c.args.part.now in
    let whole = c.args.whole.now in
    let is = is_part part whole c.requires.not_negative c.requires.within c.requires.positive c.lo.ensures.ordered in
    rw c.from_ends.ensures
    (share_is_there part whole is c.hi.ensures.ordered _ _
    (rw (← c.lo.ensures.value, ← c.hi.ensures.value) c.div_down-least.ensures.exact) c.greatest_share.ensures)

pub returns-clause-span : goal.returns-clause-span
returns-clause-span g c =
    sym (sym c.unwrap.ensures ∙ c.from_ends.ensures
    ∙ outward-ends _ _ _ _ (rw (← c.lo.ensures.value, ← c.hi.ensures.value) c.div_down-least.ensures.exact) c.greatest_share.ensures)

pub returns-clause-encloses : goal.returns-clause-encloses
returns-clause-encloses g c = λ q r h k q0 below r0.
    let is = is_part c.args.part.now c.args.whole.now c.requires.not_negative c.requires.within c.requires.positive c.lo.ensures.ordered in
    share_span_encloses c.args.part.now c.args.whole.now _ is (returns-clause-span g c) q r h k q0 below r0
