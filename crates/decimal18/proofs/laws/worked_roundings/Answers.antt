use Rattle.std.proofs.Common.{refl}
use std.Quotient.{/_rec, /_rec₂}
use Rattle.exact_fraction.specs.Fraction as fraction
use Rattle.exact_fraction.specs.Fraction.{◌⊗◌, inverse, is_at_most}
use Rattle.exact_fraction.specs.Fraction.{floor}
use Rattle.exact_fraction.specs.Number.{◌*ℚ◌, inv_ℚ, neg_ℚ, is_at_most_ℚ, floor_ℚ}
use Rattle.decimal18.specs.Down.{is_in_range, cut_off, down, up}
use Rattle.decimal18.proofs.laws.worked_roundings.Goals as goal

pub returns-clause-third : goal.returns-clause-third
unfolding up down cut_off is_in_range ◌*ℚ◌ inv_ℚ neg_ℚ is_at_most_ℚ floor_ℚ floor is_at_most ◌⊗◌ inverse fraction.negated /_rec₂ /_rec
returns-clause-third c = (refl, refl)

pub returns-clause-minus_third : goal.returns-clause-minus_third
unfolding up down cut_off is_in_range ◌*ℚ◌ inv_ℚ neg_ℚ is_at_most_ℚ floor_ℚ floor is_at_most ◌⊗◌ inverse fraction.negated /_rec₂ /_rec
returns-clause-minus_third c = (refl, refl)

pub returns-clause-above_one : goal.returns-clause-above_one
unfolding up down cut_off is_in_range ◌*ℚ◌ inv_ℚ neg_ℚ is_at_most_ℚ floor_ℚ floor is_at_most ◌⊗◌ inverse fraction.negated /_rec₂ /_rec
returns-clause-above_one c = (refl, refl)

pub returns-clause-tiny : goal.returns-clause-tiny
unfolding up down cut_off is_in_range ◌*ℚ◌ inv_ℚ neg_ℚ is_at_most_ℚ floor_ℚ floor is_at_most ◌⊗◌ inverse fraction.negated /_rec₂ /_rec
returns-clause-tiny c = (refl, refl)

pub returns-clause-past_the_greatest : goal.returns-clause-past_the_greatest
unfolding up down cut_off is_in_range ◌*ℚ◌ inv_ℚ neg_ℚ is_at_most_ℚ floor_ℚ floor is_at_most ◌⊗◌ inverse fraction.negated /_rec₂ /_rec
returns-clause-past_the_greatest c = (refl, refl)
