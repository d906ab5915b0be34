use Rattle.std.specs.Prelude.{refl}
use std.Quotient.{/_rec, /_rec₂}
use Rattle.exact_fraction.specs.Fraction as fraction
use Rattle.exact_fraction.specs.Fraction.{◌⊕◌, ◌⊗◌, inverse, is_at_most, floor}
use Rattle.exact_fraction.specs.Number.{◌+ℚ◌, ◌*ℚ◌, inv_ℚ, neg_ℚ, is_at_most_ℚ, floor_ℚ, min_ℚ, max_ℚ}
use Rattle.exact_fraction.specs.Sums.{total, below}
use Rattle.exact_law.specs.Law.{joint}
use Rattle.decimal18.specs.Bound.{value_of}
use Rattle.decimal18.specs.Down.{is_in_range, cut_off, down, up}
use Rattle.fixed_interval.specs.Interval.{outward}
use Rattle.fixed_interval.specs.Extremes.{lesser, greater}
use Rattle.fixed_interval.specs.Rules.{holds_zero}
use Rattle.covariance.specs.Variances.{group_variance_span, group_covariance_span}
use Rattle.covariance.proofs.laws.worked_covariances.Goals as goal

pub returns-clause-shared : goal.returns-clause-shared
unfolding lesser greater group_variance_span group_covariance_span holds_zero outward min_ℚ max_ℚ value_of up down cut_off is_in_range ◌+ℚ◌ ◌*ℚ◌ inv_ℚ neg_ℚ is_at_most_ℚ floor_ℚ floor is_at_most ◌⊕◌ ◌⊗◌ inverse fraction.negated total below joint /_rec₂ /_rec
returns-clause-shared c = refl

pub returns-clause-pair : goal.returns-clause-pair
unfolding lesser greater group_variance_span group_covariance_span holds_zero outward min_ℚ max_ℚ value_of up down cut_off is_in_range ◌+ℚ◌ ◌*ℚ◌ inv_ℚ neg_ℚ is_at_most_ℚ floor_ℚ floor is_at_most ◌⊕◌ ◌⊗◌ inverse fraction.negated total below joint /_rec₂ /_rec
returns-clause-pair c = refl

pub returns-clause-readings : goal.returns-clause-readings
unfolding lesser greater group_variance_span group_covariance_span holds_zero outward min_ℚ max_ℚ value_of up down cut_off is_in_range ◌+ℚ◌ ◌*ℚ◌ inv_ℚ neg_ℚ is_at_most_ℚ floor_ℚ floor is_at_most ◌⊕◌ ◌⊗◌ inverse fraction.negated total below joint /_rec₂ /_rec
returns-clause-readings c = refl

pub returns-clause-none_shared : goal.returns-clause-none_shared
unfolding lesser greater group_variance_span group_covariance_span holds_zero outward min_ℚ max_ℚ value_of up down cut_off is_in_range ◌+ℚ◌ ◌*ℚ◌ inv_ℚ neg_ℚ is_at_most_ℚ floor_ℚ floor is_at_most ◌⊕◌ ◌⊗◌ inverse fraction.negated total below joint /_rec₂ /_rec
returns-clause-none_shared c = refl

pub returns-clause-nothing : goal.returns-clause-nothing
unfolding lesser greater group_variance_span group_covariance_span holds_zero outward min_ℚ max_ℚ value_of up down cut_off is_in_range ◌+ℚ◌ ◌*ℚ◌ inv_ℚ neg_ℚ is_at_most_ℚ floor_ℚ floor is_at_most ◌⊕◌ ◌⊗◌ inverse fraction.negated total below joint /_rec₂ /_rec
returns-clause-nothing c = refl

pub returns-clause-either_order : goal.returns-clause-either_order
unfolding lesser greater group_variance_span group_covariance_span holds_zero outward min_ℚ max_ℚ value_of up down cut_off is_in_range ◌+ℚ◌ ◌*ℚ◌ inv_ℚ neg_ℚ is_at_most_ℚ floor_ℚ floor is_at_most ◌⊕◌ ◌⊗◌ inverse fraction.negated total below joint /_rec₂ /_rec
returns-clause-either_order c = refl

pub returns-clause-only_first : goal.returns-clause-only_first
unfolding lesser greater group_variance_span group_covariance_span holds_zero outward min_ℚ max_ℚ value_of up down cut_off is_in_range ◌+ℚ◌ ◌*ℚ◌ inv_ℚ neg_ℚ is_at_most_ℚ floor_ℚ floor is_at_most ◌⊕◌ ◌⊗◌ inverse fraction.negated total below joint /_rec₂ /_rec
returns-clause-only_first c = refl

pub returns-clause-only_second : goal.returns-clause-only_second
unfolding lesser greater group_variance_span group_covariance_span holds_zero outward min_ℚ max_ℚ value_of up down cut_off is_in_range ◌+ℚ◌ ◌*ℚ◌ inv_ℚ neg_ℚ is_at_most_ℚ floor_ℚ floor is_at_most ◌⊕◌ ◌⊗◌ inverse fraction.negated total below joint /_rec₂ /_rec
returns-clause-only_second c = refl
