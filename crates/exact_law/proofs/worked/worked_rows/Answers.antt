use Rattle.std.specs.Prelude.{refl}
use Rattle.std.proofs.Common.{ap}
use std.Quotient.{/_rec, /_rec₂}
use Rattle.exact_fraction.specs.Fraction.{◌⊕◌, ◌⊗◌, negated, inverse}
use Rattle.exact_fraction.specs.Number.{◌+ℚ◌, ◌*ℚ◌, neg_ℚ, inv_ℚ, is_zero_ℚ}
use Rattle.exact_fraction.proofs.Ring.{same_by_test}
use Rattle.exact_fraction.specs.Sums.{total}
use Rattle.exact_law.specs.Model.{value, slope, replaced, body_of, estimate_in, estimate, replaced_body, expansion, expanded, unit, exact_value, exact_slope}
use Rattle.exact_law.specs.Law.{cell, covariance_in, covariance, law_of, part, inputs_with, inputs_of, law, part_of}
use Rattle.exact_law.specs.Degrees.{FiniteDegrees, counts, any_counts, weight, effective, inverse_degrees, share_of, shares_of, degrees_of}
use Rattle.exact_law.proofs.worked.worked_rows.Goals as goal

pub returns : goal.returns
unfolding ◌+ℚ◌ ◌*ℚ◌ neg_ℚ inv_ℚ is_zero_ℚ ◌⊕◌ ◌⊗◌ negated inverse /_rec₂ /_rec total value slope replaced body_of estimate_in estimate replaced_body expansion expanded unit exact_value exact_slope cell covariance_in covariance law_of part inputs_with inputs_of law part_of counts any_counts weight effective inverse_degrees share_of shares_of degrees_of
returns c = record {
  cancel_value = same_by_test _ _ refl;
  cancel_slope = same_by_test _ _ refl;
  cancel_variance = same_by_test _ _ refl;
  two_degrees = ap FiniteDegrees (same_by_test _ _ refl);
  fully_correlated = same_by_test _ _ refl;
  no_degrees = refl;
}
