use Rattle.std.specs.Prelude.{◌≡◌, ℕ, Bool, true, false, cond, nat_eq, None, Some, pos, refl}
use Rattle.std.proofs.Common.{arith, subst}
use Rattle.std.proofs.lemmas.Bool.Decides.{nat_tests}
use std.Quotient.{/_rec, /_rec₂}
use Rattle.exact_fraction.specs.Fraction as fraction
use Rattle.exact_fraction.specs.Fraction.{◌⊕◌, ◌⊗◌, inverse, is_at_most, floor}
use Rattle.exact_fraction.specs.Number.{ℚ, of_ℤ, is_zero_ℚ, ◌+ℚ◌, ◌*ℚ◌, inv_ℚ, neg_ℚ, is_at_most_ℚ, floor_ℚ, min_ℚ, max_ℚ}
use Rattle.exact_fraction.specs.Sums.{total, below}
use Rattle.exact_fraction.proofs.Ring.{same_by_test}
use Rattle.exact_law.specs.Model.{Input, unit, exact_slope, slope, value, expanded, expansion, replaced_body, replaced, body_of, estimate, estimate_in}
use Rattle.exact_law.specs.Law.{joint, law, law_of, covariance, covariance_in, cell, inputs_of, inputs_with}
use Rattle.decimal18.specs.OrderLaws.{not_at_most}
use Rattle.decimal18.specs.Bound.{value_of}
use Rattle.decimal18.specs.Down.{is_in_range, cut_off, down, up}
use Rattle.fixed_interval.specs.Interval.{Encloses, outward}
use Rattle.fixed_interval.specs.Extremes.{lesser, greater}
use Rattle.fixed_interval.specs.Rules.{holds_zero}
use Rattle.covariance.specs.Gradients.{found_at, sensitivity}
use Rattle.covariance.specs.Worked.{standard, multiple, first_of, both_of}
use Rattle.covariance.specs.Variances.{group_variance_span, group_covariance_span}
use Rattle.covariance.proofs.laws.worked_standard.Goals as goal

pub returns-clause-variance : goal.returns-clause-variance
unfolding lesser greater group_variance_span group_covariance_span holds_zero outward min_ℚ max_ℚ value_of up down cut_off is_in_range ◌+ℚ◌ ◌*ℚ◌ inv_ℚ neg_ℚ is_at_most_ℚ floor_ℚ floor is_at_most ◌⊕◌ ◌⊗◌ inverse fraction.negated total below joint /_rec₂ /_rec
returns-clause-variance c = refl

pub returns-clause-covariance : goal.returns-clause-covariance
unfolding lesser greater group_variance_span group_covariance_span holds_zero outward min_ℚ max_ℚ value_of up down cut_off is_in_range ◌+ℚ◌ ◌*ℚ◌ inv_ℚ neg_ℚ is_at_most_ℚ floor_ℚ floor is_at_most ◌⊕◌ ◌⊗◌ inverse fraction.negated total below joint /_rec₂ /_rec
returns-clause-covariance c = refl

pub returns-clause-exact_variance : goal.returns-clause-exact_variance
unfolding law law_of covariance covariance_in cell unit inputs_of inputs_with exact_slope slope expanded expansion replaced_body replaced body_of estimate estimate_in total is_zero_ℚ ◌+ℚ◌ ◌*ℚ◌ neg_ℚ inv_ℚ value_of ◌⊕◌ ◌⊗◌ inverse fraction.negated /_rec₂ /_rec value
returns-clause-exact_variance c = same_by_test _ _ refl

pub returns-clause-exact_covariance : goal.returns-clause-exact_covariance
unfolding law law_of covariance covariance_in cell unit inputs_of inputs_with exact_slope slope expanded expansion replaced_body replaced body_of estimate estimate_in total is_zero_ℚ ◌+ℚ◌ ◌*ℚ◌ neg_ℚ inv_ℚ value_of ◌⊕◌ ◌⊗◌ inverse fraction.negated /_rec₂ /_rec value
returns-clause-exact_covariance c = same_by_test _ _ refl

-- X is the only input
only_input : (i : ℕ) (q : ℚ) → body_of nat_eq standard i ≡ Some (Input q) → 1 ≡ i
unfolding body_of
only_input i q e = by (nat_eq 1 i) (nat_eq 2 i) (nat_eq 3 i) refl e where
  same : nat_eq 1 i ≡ true → 1 ≡ i
  same h = grind (arith, nat_tests)

  by : (b c d : Bool) → nat_eq 1 i ≡ b
      → cond b (Some (Input (of_ℤ (pos 5)))) (cond c (Some (multiple 2 2).body) (cond d (Some (multiple 3 3).body) None)) ≡ Some (Input q) → 1 ≡ i
  by true c d h e = same h
  by false true d h e = absurd (cc)
  by false false true h e = absurd (cc)
  by false false false h e = absurd (cc)

slope_of : Encloses (sensitivity (found_at (first_of 2)) 1) (exact_slope nat_eq standard 2 1)
unfolding unit exact_slope slope expanded expansion replaced_body replaced body_of estimate estimate_in is_zero_ℚ ◌+ℚ◌ ◌*ℚ◌ neg_ℚ inv_ℚ value_of ◌⊕◌ ◌⊗◌ inverse fraction.negated /_rec₂ /_rec value is_at_most_ℚ is_at_most
slope_of = record { low = record { holds = refl }; high = record { holds = refl } }

slope_beside : Encloses (sensitivity (found_at (both_of (pos 2) (pos 9))) 1) (exact_slope nat_eq standard 2 1)
unfolding unit exact_slope slope expanded expansion replaced_body replaced body_of estimate estimate_in is_zero_ℚ ◌+ℚ◌ ◌*ℚ◌ neg_ℚ inv_ℚ value_of ◌⊕◌ ◌⊗◌ inverse fraction.negated /_rec₂ /_rec value is_at_most_ℚ is_at_most
slope_beside = record { low = record { holds = refl }; high = record { holds = refl } }

pub returns-clause-slopes : goal.returns-clause-slopes
returns-clause-slopes c i q e = subst (λ n. Encloses (sensitivity (found_at (first_of 2)) n) (exact_slope nat_eq standard 2 n)) (only_input i q e) slope_of

pub returns-clause-no_input : goal.returns-clause-no_input
returns-clause-no_input c i q e =
    subst (λ n. Encloses (sensitivity (found_at (both_of (pos 2) (pos 9))) n) (exact_slope nat_eq standard 2 n)) (only_input i q e) slope_beside

pub returns-clause-other_slope : goal.returns-clause-other_slope
unfolding unit exact_slope slope expanded expansion replaced_body replaced body_of estimate estimate_in is_zero_ℚ ◌+ℚ◌ ◌*ℚ◌ neg_ℚ inv_ℚ value_of ◌⊕◌ ◌⊗◌ inverse fraction.negated /_rec₂ /_rec value is_at_most_ℚ is_at_most
returns-clause-other_slope c h = not_at_most _ _ refl (h 1 (of_ℤ (pos 5)) refl).low
