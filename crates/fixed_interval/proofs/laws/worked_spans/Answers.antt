use Rattle.std.proofs.Common.{refl}
use std.Quotient.{/_rec, /_rec₂}
use Rattle.exact_fraction.specs.Fraction as fraction
use Rattle.exact_fraction.specs.Fraction.{◌⊗◌, inverse, is_at_most, floor}
use Rattle.exact_fraction.specs.Number.{◌*ℚ◌, inv_ℚ, neg_ℚ, is_at_most_ℚ, floor_ℚ, min_ℚ, max_ℚ}
use Rattle.decimal18.specs.Bound.{value_of}
use Rattle.decimal18.specs.Down.{is_in_range, cut_off, down, up}
use Rattle.fixed_interval.specs.Interval.{outward}
use Rattle.fixed_interval.specs.Rules.{holds_zero, greatest_share}
use Rattle.fixed_interval.specs.Powers.{power_span}
use Rattle.fixed_interval.proofs.laws.worked_spans.Goals as goal

pub returns-clause-product : goal.returns-clause-product
unfolding power_span greatest_share holds_zero outward min_ℚ max_ℚ value_of up down cut_off is_in_range ◌*ℚ◌ inv_ℚ neg_ℚ is_at_most_ℚ floor_ℚ floor is_at_most ◌⊗◌ inverse fraction.negated /_rec₂ /_rec
returns-clause-product c = refl

pub returns-clause-square : goal.returns-clause-square
unfolding power_span greatest_share holds_zero outward min_ℚ max_ℚ value_of up down cut_off is_in_range ◌*ℚ◌ inv_ℚ neg_ℚ is_at_most_ℚ floor_ℚ floor is_at_most ◌⊗◌ inverse fraction.negated /_rec₂ /_rec
returns-clause-square c = refl

pub returns-clause-cube : goal.returns-clause-cube
unfolding power_span greatest_share holds_zero outward min_ℚ max_ℚ value_of up down cut_off is_in_range ◌*ℚ◌ inv_ℚ neg_ℚ is_at_most_ℚ floor_ℚ floor is_at_most ◌⊗◌ inverse fraction.negated /_rec₂ /_rec
returns-clause-cube c = refl

pub returns-clause-share : goal.returns-clause-share
unfolding power_span greatest_share holds_zero outward min_ℚ max_ℚ value_of up down cut_off is_in_range ◌*ℚ◌ inv_ℚ neg_ℚ is_at_most_ℚ floor_ℚ floor is_at_most ◌⊗◌ inverse fraction.negated /_rec₂ /_rec
returns-clause-share c = refl
