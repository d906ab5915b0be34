use Rattle.std.specs.Prelude.{refl}
use std.Quotient.{/_rec, /_rec₂}
use Rattle.exact_fraction.specs.Fraction.{◌⊕◌, ◌⊗◌, negated, inverse, is_at_most, floor}
use Rattle.exact_fraction.specs.Number.{◌+ℚ◌, ◌*ℚ◌, neg_ℚ, inv_ℚ, is_zero_ℚ, is_at_most_ℚ, floor_ℚ}
use Rattle.exact_fraction.specs.Powers.{power, whole_power}
use Rattle.exact_fraction.specs.Sums.{total, below}
use Rattle.exact_law.specs.Model.{value, slope, power_slope, has_power, is_defined, replaced, body_of, estimate_in, estimate, is_input_body, is_input, replaced_body, expansion, expanded, unit, exact_value, exact_slope, has_value, value_of, derivative_of}
use Rattle.exact_law.specs.Law.{law_where_defined, part_where_defined}
use Rattle.exact_law.proofs.worked.worked_undefined_rows.Goals as goal

pub returns : goal.returns
unfolding ◌+ℚ◌ ◌*ℚ◌ neg_ℚ inv_ℚ is_zero_ℚ is_at_most_ℚ floor_ℚ ◌⊕◌ ◌⊗◌ negated inverse is_at_most floor /_rec₂ /_rec total below power whole_power value slope power_slope replaced body_of estimate_in estimate replaced_body expansion expanded unit exact_value exact_slope has_power is_defined is_input_body is_input has_value value_of derivative_of law_where_defined part_where_defined
returns c = record {
  without_value = refl;
  no_value = refl;
  no_derivative = refl;
  no_variance = refl;
  no_part = refl;
}
