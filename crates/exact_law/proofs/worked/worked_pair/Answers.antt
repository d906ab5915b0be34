use Rattle.std.specs.Prelude.{Some, refl}
use Rattle.std.proofs.Common.{ap, arith}
use Rattle.std.proofs.lemmas.Int.{ints}
use std.Quotient.{/_rec, /_rec₂}
use Rattle.exact_fraction.specs.Fraction.{◌⊕◌, ◌⊗◌, negated, inverse, is_at_most, floor}
use Rattle.exact_fraction.specs.Number.{◌+ℚ◌, ◌*ℚ◌, neg_ℚ, inv_ℚ, is_zero_ℚ, is_at_most_ℚ, floor_ℚ}
use Rattle.exact_fraction.specs.Powers.{power, whole_power}
use Rattle.exact_fraction.specs.Sums.{total, below}
use Rattle.exact_fraction.proofs.Ring.{same_by_test}
use Rattle.exact_law.proofs.Lists.{same_lists}
use Rattle.exact_law.specs.Model.{value, slope, power_slope, is_defined, replaced, body_of, estimate_in, estimate, is_input_body, is_input, replaced_body, expansion, expanded, unit, exact_value, exact_slope, has_value, absent, once}
use Rattle.exact_law.specs.Law.{mean, joint, cell, covariance_in, covariance, law_of, part, inputs_with, inputs_of, law, part_of, law_where_defined, part_where_defined, all_members, IsSound, members, stand_in, AllGroups}
use Rattle.exact_law.specs.Degrees.{FiniteDegrees, counts, any_counts, weight, effective, inverse_degrees, share_of, shares_of, degrees_of}
use Rattle.exact_law.proofs.worked.worked_pair.Goals as goal

pub returns : goal.returns
unfolding ◌+ℚ◌ ◌*ℚ◌ neg_ℚ inv_ℚ is_zero_ℚ is_at_most_ℚ floor_ℚ ◌⊕◌ ◌⊗◌ negated inverse is_at_most floor /_rec₂ /_rec total below power whole_power value slope power_slope replaced body_of estimate_in estimate replaced_body expansion expanded unit exact_value exact_slope mean joint cell covariance_in covariance law_of part inputs_with inputs_of law part_of law_where_defined part_where_defined all_members has_value is_defined is_input is_input_body counts any_counts weight effective inverse_degrees share_of shares_of degrees_of IsSound members stand_in AllGroups once absent
returns c = record {
  covariances = same_lists _ _ refl;
  declared = same_lists _ _ refl;
  law = same_lists _ _ refl;
  covariance_there = ap Some (same_by_test _ _ refl);
  part_there = ap Some (same_by_test _ _ refl);
  parted = record { inputs_in_groups = refl; members_in_inputs = refl };
  correlation = record {
    first = record { not_above = refl };
    second = record { not_above = refl };
    magnitude = record { low = record { holds = refl }; high = record { not_above = refl } };
    positive = λ h. record { holds = refl };
    negative = λ h. absurd (omega (arith, ints));
  };
  degrees = ap FiniteDegrees (same_by_test _ _ refl);
  sound = (
    record {
      sound = (record { holds = refl }, record { holds = refl }, record { holds = refl }, record { holds = refl });
      in_inputs = refl;
    },
    tt,
  );
}
