use Rattle.std.specs.Prelude.{Some}
use Rattle.std.proofs.Common.{sym, ap, ◌∙◌}
use Rattle.exact_fraction.specs.NumberLaws.{≤ℚ_refl}
use Rattle.fixed_interval.proofs.Enclosures.{outward-ends, outward_in_order}
use Rattle.fixed_interval.proofs.ExactSpans.{exact_quotient, no_lower_end}
use Rattle.fixed_interval.proofs.Inclusions.{coefficient_not_zero}
use Rattle.fixed_interval.proofs.exact.quotient.Goals as goal

pub div_down-requires : goal.div_down-requires
div_down-requires c = coefficient_not_zero _ c.requires

pub div_up-requires : goal.div_up-requires
div_up-requires c = coefficient_not_zero _ c.requires

pub returns-in_err-quotient : goal.returns-in_err-quotient
returns-in_err-quotient c = c.from_residual.ensures ∙ no_lower_end _ _ c.in_err-quotient.ensures.exact

pub returns-then-is_exact : goal.returns-then-is_exact
returns-then-is_exact c =
    ap Some c.at.ensures
    ∙ sym (exact_quotient c.args.a c.args.b c.in_ok-quotient.quotient c.requires (sym c.in_ok-quotient.ensures.exact) (c.is_exact.ensures c.if-is_exact.true))

pub from_ends-requires : goal.from_ends-requires
from_ends-requires c = outward_in_order _ _ _ _ c.in_ok-quotient.ensures.exact c.div_up.ensures.exact (≤ℚ_refl _)

pub returns : goal.returns
returns c = c.from_ends.ensures ∙ outward-ends _ _ _ _ c.in_ok-quotient.ensures.exact c.div_up.ensures.exact
