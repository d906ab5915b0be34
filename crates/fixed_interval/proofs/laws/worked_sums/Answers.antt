use Rattle.std.proofs.Common.{refl}
use std.Quotient.{/_rec, /_rec₂}
use Rattle.exact_fraction.specs.Fraction as fraction
use Rattle.exact_fraction.specs.Fraction.{◌⊕◌, ◌⊗◌, is_at_most, floor}
use Rattle.exact_fraction.specs.Number.{◌+ℚ◌, ◌*ℚ◌, neg_ℚ, is_at_most_ℚ, floor_ℚ}
use Rattle.decimal18.specs.Bound.{value_of}
use Rattle.decimal18.specs.Down.{is_in_range, cut_off, down, up}
use Rattle.fixed_interval.specs.Interval.{outward}
use Rattle.fixed_interval.proofs.laws.worked_sums.Goals as goal

pub returns : goal.returns
unfolding outward value_of up down cut_off is_in_range ◌+ℚ◌ ◌*ℚ◌ neg_ℚ is_at_most_ℚ floor_ℚ floor is_at_most ◌⊕◌ ◌⊗◌ fraction.negated /_rec₂ /_rec
returns c = record { none = refl; three = refl; first = refl; next = refl; left = refl }
