use Rattle.std.specs.Prelude.{Some}
use Rattle.std.proofs.Common.{sym, ap, ◌∙◌}
use Rattle.exact_fraction.specs.NumberLaws.{≤ℚ_refl}
use Rattle.fixed_interval.proofs.Enclosures.{outward-ends, outward_in_order}
use Rattle.fixed_interval.proofs.ExactSpans.{exact_span}
use Rattle.fixed_interval.proofs.exact.product.Goals as goal

pub returns-in-Some : goal.returns-in-Some
returns-in-Some c = ap Some c.at.ensures ∙ sym (exact_span _ c.in-Some.product c.in-Some.ensures.decimal c.in-Some.ensures.value)

pub from_ends-requires : goal.from_ends-requires
from_ends-requires c = outward_in_order _ _ _ _ c.mul_down.ensures.exact c.mul_up.ensures.exact (≤ℚ_refl _)

pub returns : goal.returns
returns c = c.from_ends.ensures ∙ outward-ends _ _ _ _ c.mul_down.ensures.exact c.mul_up.ensures.exact
