use Rattle.std.specs.Prelude.{refl}
use std.Quotient.{/_rec, /_rec₂}
use Rattle.exact_fraction.specs.Fraction.{◌⊕◌, ◌⊗◌, negated, inverse, is_at_most, floor}
use Rattle.exact_fraction.specs.Number.{◌+ℚ◌, ◌*ℚ◌, neg_ℚ, inv_ℚ, is_zero_ℚ, is_at_most_ℚ, floor_ℚ}
use Rattle.exact_law.specs.WrittenRule.{above_lower, below_upper, distances, guard_square, is_inside, is_guarded, is_near, all_of, stated_by, stated_at, stated, both, either, decided, decision_by, compared, inside_over, guarded_over, near_over, all_over, decision, AllWithin}
use Rattle.exact_law.proofs.worked.worked_statements.Goals as goal

pub returns : goal.returns
unfolding ◌+ℚ◌ ◌*ℚ◌ neg_ℚ inv_ℚ is_zero_ℚ is_at_most_ℚ floor_ℚ ◌⊕◌ ◌⊗◌ negated inverse is_at_most floor /_rec₂ /_rec above_lower below_upper distances guard_square is_inside is_guarded is_near all_of stated_by stated_at stated both either decided decision_by compared inside_over guarded_over near_over all_over decision AllWithin
returns c = record {
  lower = refl;
  upper = refl;
  binary = refl;
  without_limits = refl;
  both = refl;
  either = refl;
  conditions = refl;
  comparisons = refl;
  over_intervals = refl;
  within = (
    record { above = record { holds = refl }; below = record { holds = refl } },
    record { above = record { holds = refl }; below = record { holds = refl } },
    tt,
  );
}
