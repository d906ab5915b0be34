use Rattle.std.specs.Prelude.{refl}
use std.Quotient.{/_rec, /_rec₂}
use Rattle.exact_fraction.specs.Fraction as fraction
use Rattle.exact_fraction.specs.Fraction.{◌⊕◌, ◌⊗◌, inverse, is_at_most, floor}
use Rattle.exact_fraction.specs.Number.{◌+ℚ◌, ◌*ℚ◌, inv_ℚ, neg_ℚ, is_at_most_ℚ, floor_ℚ, min_ℚ, max_ℚ}
use Rattle.decimal18.specs.Bound.{value_of}
use Rattle.decimal18.specs.Down.{is_in_range, cut_off, down, up}
use Rattle.fixed_interval.specs.Interval.{outward}
use Rattle.fixed_interval.specs.Rules.{holds_zero}
use Rattle.budget_table.specs.Budgets.{budget_lines}
use Rattle.budget_table.proofs.laws.worked_overflows.Goals as goal

pub returns : goal.returns
unfolding budget_lines holds_zero outward min_ℚ max_ℚ value_of up down cut_off is_in_range ◌+ℚ◌ ◌*ℚ◌ inv_ℚ neg_ℚ is_at_most_ℚ floor_ℚ floor is_at_most ◌⊕◌ ◌⊗◌ inverse fraction.negated /_rec₂ /_rec
returns c = record { product = refl; square = refl; first = refl; last = refl }
