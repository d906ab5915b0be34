use Rattle.std.specs.Prelude.{refl}
use std.Quotient.{/_rec, /_rec₂}
use Rattle.exact_fraction.specs.Fraction.{is_at_most, floor}
use Rattle.exact_fraction.specs.Number.{is_at_most_ℚ, floor_ℚ}
use Rattle.decimal18.specs.Bound.{value_of}
use Rattle.decimal18.specs.Order.{compare_ℚ}
use Rattle.table_g2.proofs.sayings.worked_sayings.Goals as goal

pub returns : goal.returns
unfolding is_at_most_ℚ is_at_most floor_ℚ floor value_of compare_ℚ /_rec₂ /_rec
returns c = record {
  none = refl;
  infinite = refl;
  cut_off = refl;
  whole = refl;
  apart = refl;
  without_end = refl;
  most = refl;
  big = refl;
  below_big = refl;
  beyond = refl;
}
