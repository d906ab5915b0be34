use Rattle.std.specs.Prelude.{Some}
use Rattle.std.proofs.Common.{sym, ap, ◌∙◌}
use Rattle.exact_fraction.specs.NumberLaws.{≤ℚ_refl}
use Rattle.fixed_interval.proofs.Enclosures.{outward-ends, outward_in_order}
use Rattle.fixed_interval.proofs.ExactSpans.{exact_span, exact_rounded_sum, no_lower_end}
use Rattle.fixed_interval.proofs.exact.sum.Goals as goal

pub returns-in-Some : goal.returns-in-Some
returns-in-Some c = ap Some c.at.ensures ∙ sym (exact_span _ c.in-Some.sum c.in-Some.ensures.decimal c.in-Some.ensures.value)

pub returns-in_err-sum : goal.returns-in_err-sum
returns-in_err-sum c = c.from_residual.ensures ∙ no_lower_end _ _ c.in_err-sum.ensures.exact

pub returns-then-has_all_places : goal.returns-then-has_all_places
returns-then-has_all_places c =
    let places = c.has_all_places.ensures c.if-has_all_places.true in
    ap Some c.at-then-has_all_places.ensures ∙ sym (exact_rounded_sum c.args.a c.args.b c.in_ok-sum.sum (sym c.in_ok-sum.ensures.exact) places.0 places.1)

pub from_ends-requires : goal.from_ends-requires
from_ends-requires c = outward_in_order _ _ _ _ c.in_ok-sum.ensures.exact c.add_up.ensures.exact (≤ℚ_refl _)

pub returns : goal.returns
returns c = c.from_ends.ensures ∙ outward-ends _ _ _ _ c.in_ok-sum.ensures.exact c.add_up.ensures.exact
