use Rattle.std.proofs.Common.{◌≡◌, ◌≤◌, ◌<◌, ◌+◌, ◌-◌, ◌^◌, arith, refl, subst, sym}
use Rattle.std.specs.Prelude.{◌↔◌, false}
use Rattle.decimal18.specs.Digits.{IsFirst}
use Rattle.decimal18.proofs.Counting.{powers_rise, kept_fit, first_of}
use Rattle.decimal18.proofs.round.cut.Goals as goal

pub returns-then-count-places-clause-none : goal.returns-then-count-places-clause-none
returns-then-count-places-clause-none c =
    let above : c.args.places < c.surplus.result = omega arith in
    let f : 10 ^ (18 + c.args.places) ≤ 10 ^ (17 + c.surplus.result) =
    powers_rise (18 + c.args.places) (17 + c.surplus.result) (omega arith) in
    let g : 10 ^ (17 + c.surplus.result) ≤ c.args.digits = c.surplus.ensures.reached (omega arith) in
    omega arith

pub split_off-parts-requires-clause-fits : goal.split_off-parts-requires-clause-fits
split_off-parts-requires-clause-fits c =
    let f = powers_rise 0 c.max-count.result (omega arith) in
    kept_fit c.args.digits _ _ c.max-count.result refl (omega (arith, f)) c.surplus.ensures.below (omega arith)

pub returns-clause-some : goal.returns-clause-some
returns-clause-some c =
    let count = c.max-count.result in
    let f = powers_rise 0 count (omega arith) in
    let all = subst (λ r. (c.has_more.result ≡ false) ↔ ((c.args.lost ≡ false) × (r ≡ 0))) c.split_off-parts.ensures.rest c.has_more.ensures in
    subst (λ k. IsFirst c.args.digits c.args.places c.args.lost k (c.args.places - count) c.has_more.result) (sym c.split_off-parts.ensures.kept)
    (first_of c.args.digits c.args.places c.surplus.result count (10 ^ count) c.args.lost c.has_more.result refl (omega (arith, f))
    c.surplus.ensures.below c.surplus.ensures.reached (omega arith) c.if-count-places.false all)
