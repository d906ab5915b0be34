use Rattle.std.specs.Prelude.{refl}
use Rattle.std.proofs.Common.{ap}
use std.Quotient.{/_rec, /_rec₂}
use Rattle.exact_fraction.specs.Fraction.{◌⊕◌, ◌⊗◌, negated, inverse, is_at_most, floor}
use Rattle.exact_fraction.specs.Number.{◌+ℚ◌, ◌*ℚ◌, neg_ℚ, inv_ℚ, is_zero_ℚ, is_at_most_ℚ, floor_ℚ}
use Rattle.exact_fraction.specs.Powers.{power, whole_power}
use Rattle.exact_fraction.specs.Sums.{total, below}
use Rattle.exact_fraction.proofs.Ring.{same_by_test}
use Rattle.exact_law.specs.Model.{value, slope, power_slope, replaced, body_of, estimate_in, estimate, replaced_body, expansion, expanded, unit, exact_value, exact_slope, absent, once}
use Rattle.exact_law.specs.Law.{mean, joint, cell, covariance_in, covariance, law_of, part, inputs_with, inputs_of, law, part_of, IsSound, members, stand_in, AllGroups}
use Rattle.exact_law.specs.Degrees.{FiniteDegrees, counts, any_counts, weight, effective, inverse_degrees, share_of, shares_of, degrees_of}
use Rattle.exact_law.proofs.worked.worked_degrees.Goals as goal

pub returns : goal.returns
unfolding ◌+ℚ◌ ◌*ℚ◌ neg_ℚ inv_ℚ is_zero_ℚ is_at_most_ℚ floor_ℚ ◌⊕◌ ◌⊗◌ negated inverse is_at_most floor /_rec₂ /_rec total below power whole_power value slope power_slope replaced body_of estimate_in estimate replaced_body expansion expanded unit exact_value exact_slope mean joint cell covariance_in covariance law_of part inputs_with inputs_of law part_of counts any_counts weight effective inverse_degrees share_of shares_of degrees_of IsSound members stand_in AllGroups once absent
returns c = record {
  unequal = ap FiniteDegrees (same_by_test _ _ refl);
  one_counts = ap FiniteDegrees (same_by_test _ _ refl);
  second_counts = ap FiniteDegrees (same_by_test _ _ refl);
  none_counts = refl;
  sound = (
    record { sound = (record { holds = refl }, record { holds = refl }); in_inputs = refl },
    (record { sound = (record { holds = refl }, record { holds = refl }); in_inputs = refl }, tt),
  );
}
