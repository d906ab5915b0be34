use Rattle.std.proofs.Common.{refl}
use std.Quotient.{/_rec, /_rec₂}
use Rattle.exact_fraction.specs.Fraction as fraction
use Rattle.exact_fraction.specs.Fraction.{◌⊕◌, ◌⊗◌, inverse, is_at_most, floor}
use Rattle.exact_fraction.specs.Number.{◌+ℚ◌, ◌*ℚ◌, inv_ℚ, neg_ℚ, is_at_most_ℚ, floor_ℚ, min_ℚ, max_ℚ}
use Rattle.decimal18.specs.Bound.{value_of}
use Rattle.decimal18.specs.Down.{is_in_range, cut_off, down, up}
use Rattle.fixed_interval.specs.Interval.{outward}
use Rattle.fixed_interval.specs.Rules.{holds_zero, quotient}
use Rattle.fixed_interval.specs.Powers.{power_span}
use Rattle.formula_box.specs.Values.{span_of}
use Rattle.formula_box.specs.Slopes.{partial_of}
use Rattle.formula_box.proofs.worked.worked_derivatives.Goals as goal

pub returns-clause-product : goal.returns-clause-product
unfolding span_of partial_of power_span quotient holds_zero outward min_ℚ max_ℚ value_of up down cut_off is_in_range ◌+ℚ◌ ◌*ℚ◌ inv_ℚ neg_ℚ is_at_most_ℚ floor_ℚ floor is_at_most ◌⊕◌ ◌⊗◌ inverse fraction.negated /_rec₂ /_rec
returns-clause-product c = refl

pub returns-clause-square : goal.returns-clause-square
unfolding span_of partial_of power_span quotient holds_zero outward min_ℚ max_ℚ value_of up down cut_off is_in_range ◌+ℚ◌ ◌*ℚ◌ inv_ℚ neg_ℚ is_at_most_ℚ floor_ℚ floor is_at_most ◌⊕◌ ◌⊗◌ inverse fraction.negated /_rec₂ /_rec
returns-clause-square c = refl

pub returns-clause-quotient : goal.returns-clause-quotient
unfolding span_of partial_of power_span quotient holds_zero outward min_ℚ max_ℚ value_of up down cut_off is_in_range ◌+ℚ◌ ◌*ℚ◌ inv_ℚ neg_ℚ is_at_most_ℚ floor_ℚ floor is_at_most ◌⊕◌ ◌⊗◌ inverse fraction.negated /_rec₂ /_rec
returns-clause-quotient c = refl

pub returns-clause-steep : goal.returns-clause-steep
unfolding span_of partial_of power_span quotient holds_zero outward min_ℚ max_ℚ value_of up down cut_off is_in_range ◌+ℚ◌ ◌*ℚ◌ inv_ℚ neg_ℚ is_at_most_ℚ floor_ℚ floor is_at_most ◌⊕◌ ◌⊗◌ inverse fraction.negated /_rec₂ /_rec
returns-clause-steep c = refl
