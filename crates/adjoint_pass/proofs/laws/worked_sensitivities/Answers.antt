use Rattle.std.proofs.Common.{refl}
use std.Quotient.{/_rec, /_rec₂}
use Rattle.exact_fraction.specs.Fraction as fraction
use Rattle.exact_fraction.specs.Fraction.{◌⊕◌, ◌⊗◌, inverse, is_at_most, floor}
use Rattle.exact_fraction.specs.Number.{◌+ℚ◌, ◌*ℚ◌, inv_ℚ, neg_ℚ, is_at_most_ℚ, is_zero_ℚ, floor_ℚ, min_ℚ, max_ℚ}
use Rattle.exact_fraction.proofs.Ring.{same_by_test}
use Rattle.exact_law.specs.Model.{value, power_slope, slope, replaced, body_of, estimate_in, estimate, replaced_body, expansion, expanded, unit, exact_slope}
use Rattle.decimal18.specs.Bound.{value_of}
use Rattle.decimal18.specs.Down.{is_in_range, cut_off, down, up}
use Rattle.fixed_interval.specs.Interval.{outward}
use Rattle.fixed_interval.specs.Rules.{holds_zero, quotient}
use Rattle.formula_box.specs.Values.{span_of}
use Rattle.formula_box.specs.Slopes.{partial_of}
use Rattle.value_cache.specs.Evaluations.{evaluation_of}
use Rattle.adjoint_pass.specs.Sweep.{is_in_cone, sensitivity}
use Rattle.adjoint_pass.specs.Sensitivities.{sensitivity_of}
use Rattle.adjoint_pass.proofs.laws.worked_sensitivities.Goals as goal

pub returns-clause-through : goal.returns-clause-through
unfolding sensitivity_of sensitivity is_in_cone evaluation_of span_of partial_of quotient holds_zero outward min_ℚ max_ℚ value_of up down cut_off is_in_range ◌+ℚ◌ ◌*ℚ◌ inv_ℚ neg_ℚ is_at_most_ℚ floor_ℚ floor is_at_most ◌⊕◌ ◌⊗◌ inverse fraction.negated /_rec₂ /_rec
returns-clause-through c = refl

pub returns-clause-exact : goal.returns-clause-exact
unfolding exact_slope slope value power_slope unit expanded expansion replaced_body replaced body_of estimate estimate_in value_of is_zero_ℚ ◌+ℚ◌ ◌*ℚ◌ neg_ℚ ◌⊕◌ ◌⊗◌ fraction.negated /_rec₂ /_rec
returns-clause-exact c = same_by_test _ _ refl

pub returns-clause-rounded : goal.returns-clause-rounded
unfolding sensitivity_of sensitivity is_in_cone evaluation_of span_of partial_of quotient holds_zero outward min_ℚ max_ℚ value_of up down cut_off is_in_range ◌+ℚ◌ ◌*ℚ◌ inv_ℚ neg_ℚ is_at_most_ℚ floor_ℚ floor is_at_most ◌⊕◌ ◌⊗◌ inverse fraction.negated /_rec₂ /_rec
returns-clause-rounded c = refl

pub returns-clause-itself : goal.returns-clause-itself
unfolding sensitivity_of sensitivity is_in_cone evaluation_of span_of partial_of quotient holds_zero outward min_ℚ max_ℚ value_of up down cut_off is_in_range ◌+ℚ◌ ◌*ℚ◌ inv_ℚ neg_ℚ is_at_most_ℚ floor_ℚ floor is_at_most ◌⊕◌ ◌⊗◌ inverse fraction.negated /_rec₂ /_rec
returns-clause-itself c = refl

pub returns-clause-unused : goal.returns-clause-unused
unfolding sensitivity_of sensitivity is_in_cone evaluation_of span_of partial_of quotient holds_zero outward min_ℚ max_ℚ value_of up down cut_off is_in_range ◌+ℚ◌ ◌*ℚ◌ inv_ℚ neg_ℚ is_at_most_ℚ floor_ℚ floor is_at_most ◌⊕◌ ◌⊗◌ inverse fraction.negated /_rec₂ /_rec
returns-clause-unused c = refl

pub returns-clause-cone : goal.returns-clause-cone
unfolding sensitivity_of sensitivity is_in_cone evaluation_of span_of partial_of quotient holds_zero outward min_ℚ max_ℚ value_of up down cut_off is_in_range ◌+ℚ◌ ◌*ℚ◌ inv_ℚ neg_ℚ is_at_most_ℚ floor_ℚ floor is_at_most ◌⊕◌ ◌⊗◌ inverse fraction.negated /_rec₂ /_rec
returns-clause-cone c = refl

pub returns-clause-entries : goal.returns-clause-entries
unfolding sensitivity_of sensitivity is_in_cone evaluation_of span_of partial_of quotient holds_zero outward min_ℚ max_ℚ value_of up down cut_off is_in_range ◌+ℚ◌ ◌*ℚ◌ inv_ℚ neg_ℚ is_at_most_ℚ floor_ℚ floor is_at_most ◌⊕◌ ◌⊗◌ inverse fraction.negated /_rec₂ /_rec
returns-clause-entries c = refl

pub returns-clause-defined : goal.returns-clause-defined
unfolding sensitivity_of sensitivity is_in_cone evaluation_of span_of partial_of quotient holds_zero outward min_ℚ max_ℚ value_of up down cut_off is_in_range ◌+ℚ◌ ◌*ℚ◌ inv_ℚ neg_ℚ is_at_most_ℚ floor_ℚ floor is_at_most ◌⊕◌ ◌⊗◌ inverse fraction.negated /_rec₂ /_rec
returns-clause-defined c = refl
