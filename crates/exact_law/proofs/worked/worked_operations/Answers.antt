use Rattle.std.specs.Prelude.{Some, refl}
use Rattle.std.proofs.Common.{ap}
use std.Quotient.{/_rec, /_rec₂}
use Rattle.exact_fraction.specs.Fraction.{◌⊕◌, ◌⊗◌, negated, inverse, is_at_most, floor}
use Rattle.exact_fraction.specs.Number.{◌+ℚ◌, ◌*ℚ◌, neg_ℚ, inv_ℚ, is_zero_ℚ, is_at_most_ℚ, floor_ℚ}
use Rattle.exact_fraction.specs.Powers.{power, whole_power}
use Rattle.exact_fraction.specs.Sums.{total, below}
use Rattle.exact_fraction.proofs.Ring.{same_by_test}
use Rattle.exact_law.proofs.Lists.{same_lists}
use Rattle.exact_law.specs.Model.{value, slope, power_slope, has_power, is_defined, uses, replaced, body_of, estimate_in, estimate, is_input_body, is_input, replaced_body, expansion, expanded, unit, exact_value, exact_slope, has_value, value_of, derivative_of, body_uses, keys, absent, once, uses_only, body_uses_only, is_order, AreOf}
use Rattle.exact_law.proofs.worked.worked_operations.Goals as goal

pub returns : goal.returns
unfolding ◌+ℚ◌ ◌*ℚ◌ neg_ℚ inv_ℚ is_zero_ℚ is_at_most_ℚ floor_ℚ ◌⊕◌ ◌⊗◌ negated inverse is_at_most floor /_rec₂ /_rec total below power whole_power value slope power_slope replaced body_of estimate_in estimate replaced_body expansion expanded unit exact_value exact_slope has_power is_defined uses is_input_body is_input has_value value_of derivative_of body_uses keys absent once uses_only body_uses_only is_order AreOf
returns c = record {
  values = same_lists _ _ refl;
  by_first = same_lists _ _ refl;
  by_second = same_lists _ _ refl;
  order = record { of_model = (refl, (refl, (refl, (refl, (refl, (refl, (refl, (refl, (refl, (refl, (refl, tt))))))))))); in_order = refl };
  uses_first = refl;
  uses_second = refl;
  with_value = refl;
  value_there = ap Some (same_by_test _ _ refl);
  derivative_there = ap Some (same_by_test _ _ refl);
  estimates = same_lists _ _ refl;
}
