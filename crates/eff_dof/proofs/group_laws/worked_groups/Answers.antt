use Rattle.std.specs.Prelude.{refl}
use std.Quotient.{/_rec, /_rec₂}
use Rattle.exact_fraction.specs.Fraction as fraction
use Rattle.exact_fraction.specs.Fraction.{◌⊕◌, ◌⊗◌, inverse, is_at_most, floor}
use Rattle.exact_fraction.specs.Number.{◌+ℚ◌, ◌*ℚ◌, inv_ℚ, neg_ℚ, is_at_most_ℚ, floor_ℚ, min_ℚ, max_ℚ}
use Rattle.exact_fraction.specs.Sums.{total, below}
use Rattle.exact_law.specs.Law.{joint}
use Rattle.decimal18.specs.Bound.{value_of}
use Rattle.decimal18.specs.Order.{compare_ℚ}
use Rattle.decimal18.specs.Down.{is_in_range, cut_off, down, up}
use Rattle.fixed_interval.specs.Interval.{outward}
use Rattle.fixed_interval.specs.Extremes.{lesser, greater}
use Rattle.fixed_interval.specs.Rules.{holds_zero, greatest_share}
use Rattle.covariance.specs.Variances.{group_variance_span}
use Rattle.eff_dof.specs.Degrees.{known_degrees}
use Rattle.eff_dof.specs.GroupParts.{known_degrees_of}
use Rattle.eff_dof.proofs.group_laws.worked_groups.Goals as goal

pub returns-clause-two : goal.returns-clause-two
unfolding known_degrees_of known_degrees group_variance_span lesser greater holds_zero greatest_share outward min_ℚ max_ℚ value_of up down cut_off is_in_range ◌+ℚ◌ ◌*ℚ◌ inv_ℚ neg_ℚ is_at_most_ℚ floor_ℚ floor is_at_most ◌⊕◌ ◌⊗◌ inverse fraction.negated total below joint /_rec₂ /_rec
returns-clause-two c = refl

pub returns-clause-pair : goal.returns-clause-pair
unfolding known_degrees_of known_degrees group_variance_span lesser greater holds_zero greatest_share outward min_ℚ max_ℚ value_of up down cut_off is_in_range ◌+ℚ◌ ◌*ℚ◌ inv_ℚ neg_ℚ is_at_most_ℚ floor_ℚ floor is_at_most ◌⊕◌ ◌⊗◌ inverse fraction.negated total below joint /_rec₂ /_rec
returns-clause-pair c = refl

pub returns-clause-opposed : goal.returns-clause-opposed
unfolding known_degrees_of known_degrees group_variance_span lesser greater holds_zero greatest_share outward min_ℚ max_ℚ value_of up down cut_off is_in_range ◌+ℚ◌ ◌*ℚ◌ inv_ℚ neg_ℚ is_at_most_ℚ floor_ℚ floor is_at_most ◌⊕◌ ◌⊗◌ inverse fraction.negated total below joint /_rec₂ /_rec
returns-clause-opposed c = refl

pub returns-clause-table : goal.returns-clause-table
unfolding known_degrees_of known_degrees group_variance_span lesser greater holds_zero greatest_share outward min_ℚ max_ℚ value_of up down cut_off is_in_range ◌+ℚ◌ ◌*ℚ◌ inv_ℚ neg_ℚ is_at_most_ℚ floor_ℚ floor is_at_most ◌⊕◌ ◌⊗◌ inverse fraction.negated total below joint /_rec₂ /_rec
returns-clause-table c = refl

pub returns-clause-relative : goal.returns-clause-relative
unfolding known_degrees_of known_degrees group_variance_span lesser greater holds_zero greatest_share outward min_ℚ max_ℚ value_of up down cut_off is_in_range ◌+ℚ◌ ◌*ℚ◌ inv_ℚ neg_ℚ is_at_most_ℚ floor_ℚ floor is_at_most ◌⊕◌ ◌⊗◌ inverse fraction.negated total below joint /_rec₂ /_rec
returns-clause-relative c = refl

pub returns-clause-first_alone : goal.returns-clause-first_alone
unfolding known_degrees_of known_degrees group_variance_span lesser greater holds_zero greatest_share outward min_ℚ max_ℚ value_of up down cut_off is_in_range ◌+ℚ◌ ◌*ℚ◌ inv_ℚ neg_ℚ is_at_most_ℚ floor_ℚ floor is_at_most ◌⊕◌ ◌⊗◌ inverse fraction.negated total below joint /_rec₂ /_rec
returns-clause-first_alone c = refl

pub returns-clause-second_alone : goal.returns-clause-second_alone
unfolding known_degrees_of known_degrees group_variance_span lesser greater holds_zero greatest_share outward min_ℚ max_ℚ value_of up down cut_off is_in_range ◌+ℚ◌ ◌*ℚ◌ inv_ℚ neg_ℚ is_at_most_ℚ floor_ℚ floor is_at_most ◌⊕◌ ◌⊗◌ inverse fraction.negated total below joint /_rec₂ /_rec
returns-clause-second_alone c = refl

pub returns-clause-outside : goal.returns-clause-outside
unfolding known_degrees_of known_degrees group_variance_span lesser greater holds_zero greatest_share outward min_ℚ max_ℚ value_of up down cut_off is_in_range ◌+ℚ◌ ◌*ℚ◌ inv_ℚ neg_ℚ is_at_most_ℚ floor_ℚ floor is_at_most ◌⊕◌ ◌⊗◌ inverse fraction.negated total below joint /_rec₂ /_rec
returns-clause-outside c = refl

pub returns-clause-inside : goal.returns-clause-inside
unfolding known_degrees_of known_degrees group_variance_span lesser greater holds_zero greatest_share outward min_ℚ max_ℚ value_of up down cut_off is_in_range ◌+ℚ◌ ◌*ℚ◌ inv_ℚ neg_ℚ is_at_most_ℚ floor_ℚ floor is_at_most ◌⊕◌ ◌⊗◌ inverse fraction.negated total below joint /_rec₂ /_rec
returns-clause-inside c = refl

pub returns-clause-nothing : goal.returns-clause-nothing
unfolding known_degrees_of known_degrees group_variance_span lesser greater holds_zero greatest_share outward min_ℚ max_ℚ value_of up down cut_off is_in_range ◌+ℚ◌ ◌*ℚ◌ inv_ℚ neg_ℚ is_at_most_ℚ floor_ℚ floor is_at_most ◌⊕◌ ◌⊗◌ inverse fraction.negated total below joint /_rec₂ /_rec
returns-clause-nothing c = refl

pub returns-clause-flat : goal.returns-clause-flat
unfolding known_degrees_of known_degrees group_variance_span lesser greater holds_zero greatest_share outward min_ℚ max_ℚ value_of up down cut_off is_in_range ◌+ℚ◌ ◌*ℚ◌ inv_ℚ neg_ℚ is_at_most_ℚ floor_ℚ floor is_at_most ◌⊕◌ ◌⊗◌ inverse fraction.negated total below joint /_rec₂ /_rec
returns-clause-flat c = refl

pub returns-clause-said : goal.returns-clause-said
unfolding is_at_most_ℚ is_at_most floor_ℚ floor value_of compare_ℚ /_rec₂ /_rec
returns-clause-said c = refl
