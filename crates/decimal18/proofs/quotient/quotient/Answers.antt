use Rattle.std.proofs.Common.{◌∙◌, ◌≤◌, ◌<◌, ◌^◌, ap, sym, arith, inl, inr}
use Rattle.std.specs.Prelude.{Bool}
use std.Quotient.{cls}
use Rattle.exact_fraction.specs.Number.{ℚ}
use Rattle.decimal18.specs.Digits.{rounded, signed, signed_ℚ, differ}
use Rattle.decimal18.proofs.CutOff.{rounded_none}
use Rattle.decimal18.proofs.Quotients.{ratio_of, quotient_cut, quotient_at, quotient_large, positive_size}
use Rattle.decimal18.proofs.quotient.quotient.Goals as goal

pub returns-then-places-b_places : goal.returns-then-places-b_places
returns-then-places-b_places c =
    let q = c.divide_once-quotient.result in
    let n0 : 0 < c.size-2.result = positive_size c.args.b.coefficient c.size-2.result c.size-2.ensures.value c.requires in
    let y : ℚ = cls (ratio_of c.size.result c.size-2.result c.places-b_places.result c.places-a_places.result n0) in
    let enough : 10 ^ 17 ≤ q.digits = elim c.divide_once-quotient.ensures.least as (λ _. 10 ^ 17 ≤ q.digits) [ inl h ↦ h | inr h ↦ absurd (omega arith) ] in
    sym (rounded_none y (differ c.is_negative.result c.is_negative-2.result) c.args.direction
    (quotient_large c.size.result c.size-2.result c.places-b_places.result c.places-a_places.result q.shift q.digits n0 q.lost c.if-places-b_places.true c.divide_once-quotient.ensures.digits enough))
    ∙ ap (rounded c.args.direction) (quotient_at c.args.a.coefficient c.args.b.coefficient c.is_negative.result c.is_negative-2.result c.size.result c.size-2.result
    c.args.a.places c.args.b.places c.places-a_places.result c.places-b_places.result n0
    (c.is_negative.ensures ∙ ap (signed c.is_negative.result) (sym c.size.ensures.value))
    (c.is_negative-2.ensures ∙ ap (signed c.is_negative-2.result) (sym c.size-2.ensures.value))
    c.places-a_places.ensures.value c.places-b_places.ensures.value)

pub returns : goal.returns
returns c =
    let q = c.divide_once-quotient.result in
    let n0 : 0 < c.size-2.result = positive_size c.args.b.coefficient c.size-2.result c.size-2.ensures.value c.requires in
    let y : ℚ = cls (ratio_of c.size.result c.size-2.result c.places-b_places.result c.places-a_places.result n0) in
    c.round.ensures y (quotient_cut c.size.result c.size-2.result c.places-b_places.result c.places-a_places.result _ q.shift q.digits n0 q.lost (omega arith) c.divide_once-quotient.ensures.digits)
    ∙ ap (λ (negative : Bool). rounded c.args.direction (signed_ℚ negative y)) c.differ-negative.ensures
    ∙ ap (rounded c.args.direction) (quotient_at c.args.a.coefficient c.args.b.coefficient c.is_negative.result c.is_negative-2.result c.size.result c.size-2.result
    c.args.a.places c.args.b.places c.places-a_places.result c.places-b_places.result n0
    (c.is_negative.ensures ∙ ap (signed c.is_negative.result) (sym c.size.ensures.value))
    (c.is_negative-2.ensures ∙ ap (signed c.is_negative-2.result) (sym c.size-2.ensures.value))
    c.places-a_places.ensures.value c.places-b_places.ensures.value)
