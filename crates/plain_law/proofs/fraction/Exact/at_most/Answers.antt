use Rattle.std.specs.Prelude.{pos}
use Rattle.std.proofs.Common.{◌∙◌, ap}
use Rattle.exact_fraction.specs.Number.{of_ℤ, is_at_most_ℚ}
use Rattle.plain_law.proofs.Quotient.{by_difference}
use Rattle.plain_law.proofs.fraction.Exact.at_most.Goals as goal

pub returns : goal.returns
returns c = c.is_not_negative.ensures ∙ ap (is_at_most_ℚ (of_ℤ (pos 0))) c.in_ok-minus.ensures ∙ by_difference _ _
