use Rattle.std.specs.Prelude.{refl}
use std.Quotient.{/_rec, /_rec₂}
use Rattle.exact_fraction.specs.Fraction as fraction
use Rattle.exact_fraction.specs.Fraction.{◌⊕◌, ◌⊗◌, inverse, is_at_most, floor}
use Rattle.exact_fraction.specs.Number.{◌+ℚ◌, ◌*ℚ◌, inv_ℚ, neg_ℚ, is_at_most_ℚ, floor_ℚ, min_ℚ, max_ℚ}
use Rattle.exact_fraction.specs.Sums.{total, below}
use Rattle.exact_law.specs.Law.{joint}
use Rattle.decimal18.specs.Bound.{value_of}
use Rattle.decimal18.specs.Down.{is_in_range, cut_off, down, up}
use Rattle.fixed_interval.specs.Interval.{outward}
use Rattle.fixed_interval.specs.Extremes.{lesser, greater}
use Rattle.fixed_interval.specs.Rules.{holds_zero}
use Rattle.covariance.specs.Variances.{group_variance_span, group_covariance_span}
use Rattle.covariance.proofs.laws.worked_variances.Goals as goal

pub returns-clause-single : goal.returns-clause-single
unfolding lesser greater group_variance_span group_covariance_span holds_zero outward min_ℚ max_ℚ value_of up down cut_off is_in_range ◌+ℚ◌ ◌*ℚ◌ inv_ℚ neg_ℚ is_at_most_ℚ floor_ℚ floor is_at_most ◌⊕◌ ◌⊗◌ inverse fraction.negated total below joint /_rec₂ /_rec
returns-clause-single c = refl

pub returns-clause-opposed : goal.returns-clause-opposed
unfolding lesser greater group_variance_span group_covariance_span holds_zero outward min_ℚ max_ℚ value_of up down cut_off is_in_range ◌+ℚ◌ ◌*ℚ◌ inv_ℚ neg_ℚ is_at_most_ℚ floor_ℚ floor is_at_most ◌⊕◌ ◌⊗◌ inverse fraction.negated total below joint /_rec₂ /_rec
returns-clause-opposed c = refl

pub returns-clause-together : goal.returns-clause-together
unfolding lesser greater group_variance_span group_covariance_span holds_zero outward min_ℚ max_ℚ value_of up down cut_off is_in_range ◌+ℚ◌ ◌*ℚ◌ inv_ℚ neg_ℚ is_at_most_ℚ floor_ℚ floor is_at_most ◌⊕◌ ◌⊗◌ inverse fraction.negated total below joint /_rec₂ /_rec
returns-clause-together c = refl

pub returns-clause-unlike : goal.returns-clause-unlike
unfolding lesser greater group_variance_span group_covariance_span holds_zero outward min_ℚ max_ℚ value_of up down cut_off is_in_range ◌+ℚ◌ ◌*ℚ◌ inv_ℚ neg_ℚ is_at_most_ℚ floor_ℚ floor is_at_most ◌⊕◌ ◌⊗◌ inverse fraction.negated total below joint /_rec₂ /_rec
returns-clause-unlike c = refl

pub returns-clause-readings : goal.returns-clause-readings
unfolding lesser greater group_variance_span group_covariance_span holds_zero outward min_ℚ max_ℚ value_of up down cut_off is_in_range ◌+ℚ◌ ◌*ℚ◌ inv_ℚ neg_ℚ is_at_most_ℚ floor_ℚ floor is_at_most ◌⊕◌ ◌⊗◌ inverse fraction.negated total below joint /_rec₂ /_rec
returns-clause-readings c = refl

pub returns-clause-none : goal.returns-clause-none
unfolding lesser greater group_variance_span group_covariance_span holds_zero outward min_ℚ max_ℚ value_of up down cut_off is_in_range ◌+ℚ◌ ◌*ℚ◌ inv_ℚ neg_ℚ is_at_most_ℚ floor_ℚ floor is_at_most ◌⊕◌ ◌⊗◌ inverse fraction.negated total below joint /_rec₂ /_rec
returns-clause-none c = refl

pub returns-clause-met : goal.returns-clause-met
unfolding lesser greater group_variance_span group_covariance_span holds_zero outward min_ℚ max_ℚ value_of up down cut_off is_in_range ◌+ℚ◌ ◌*ℚ◌ inv_ℚ neg_ℚ is_at_most_ℚ floor_ℚ floor is_at_most ◌⊕◌ ◌⊗◌ inverse fraction.negated total below joint /_rec₂ /_rec
returns-clause-met c = refl

pub returns-clause-left : goal.returns-clause-left
unfolding lesser greater group_variance_span group_covariance_span holds_zero outward min_ℚ max_ℚ value_of up down cut_off is_in_range ◌+ℚ◌ ◌*ℚ◌ inv_ℚ neg_ℚ is_at_most_ℚ floor_ℚ floor is_at_most ◌⊕◌ ◌⊗◌ inverse fraction.negated total below joint /_rec₂ /_rec
returns-clause-left c = refl

pub returns-clause-partner : goal.returns-clause-partner
unfolding lesser greater group_variance_span group_covariance_span holds_zero outward min_ℚ max_ℚ value_of up down cut_off is_in_range ◌+ℚ◌ ◌*ℚ◌ inv_ℚ neg_ℚ is_at_most_ℚ floor_ℚ floor is_at_most ◌⊕◌ ◌⊗◌ inverse fraction.negated total below joint /_rec₂ /_rec
returns-clause-partner c = refl
