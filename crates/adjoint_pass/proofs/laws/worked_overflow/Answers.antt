use Rattle.std.proofs.Common.{refl}
use std.Quotient.{/_rec, /_rec₂}
use Rattle.exact_fraction.specs.Fraction as fraction
use Rattle.exact_fraction.specs.Fraction.{◌⊕◌, ◌⊗◌, inverse, is_at_most, floor}
use Rattle.exact_fraction.specs.Number.{◌+ℚ◌, ◌*ℚ◌, inv_ℚ, neg_ℚ, is_at_most_ℚ, floor_ℚ, min_ℚ, max_ℚ}
use Rattle.decimal18.specs.Bound.{value_of}
use Rattle.decimal18.specs.Down.{is_in_range, cut_off, down, up}
use Rattle.fixed_interval.specs.Interval.{outward}
use Rattle.fixed_interval.specs.Rules.{holds_zero, quotient}
use Rattle.formula_box.specs.Values.{span_of}
use Rattle.formula_box.specs.Slopes.{partial_of}
use Rattle.value_cache.specs.Evaluations.{evaluation_of}
use Rattle.adjoint_pass.specs.Sweep.{is_in_cone, sensitivity}
use Rattle.adjoint_pass.specs.Sensitivities.{sensitivity_of}
use Rattle.adjoint_pass.proofs.laws.worked_overflow.Goals as goal

pub returns-clause-value : goal.returns-clause-value
unfolding sensitivity_of sensitivity is_in_cone evaluation_of span_of partial_of quotient holds_zero outward min_ℚ max_ℚ value_of up down cut_off is_in_range ◌+ℚ◌ ◌*ℚ◌ inv_ℚ neg_ℚ is_at_most_ℚ floor_ℚ floor is_at_most ◌⊕◌ ◌⊗◌ inverse fraction.negated /_rec₂ /_rec
returns-clause-value c = refl

pub returns-clause-sensitivity : goal.returns-clause-sensitivity
unfolding sensitivity_of sensitivity is_in_cone evaluation_of span_of partial_of quotient holds_zero outward min_ℚ max_ℚ value_of up down cut_off is_in_range ◌+ℚ◌ ◌*ℚ◌ inv_ℚ neg_ℚ is_at_most_ℚ floor_ℚ floor is_at_most ◌⊕◌ ◌⊗◌ inverse fraction.negated /_rec₂ /_rec
returns-clause-sensitivity c = refl

pub returns-clause-undefined : goal.returns-clause-undefined
unfolding sensitivity_of sensitivity is_in_cone evaluation_of span_of partial_of quotient holds_zero outward min_ℚ max_ℚ value_of up down cut_off is_in_range ◌+ℚ◌ ◌*ℚ◌ inv_ℚ neg_ℚ is_at_most_ℚ floor_ℚ floor is_at_most ◌⊕◌ ◌⊗◌ inverse fraction.negated /_rec₂ /_rec
returns-clause-undefined c = refl
