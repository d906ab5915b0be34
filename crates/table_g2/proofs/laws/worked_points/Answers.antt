use Rattle.std.specs.Prelude.{refl}
use std.Quotient.{/_rec, /_rec₂}
use Rattle.exact_fraction.specs.Fraction.{is_at_most}
use Rattle.exact_fraction.specs.Number.{is_at_most_ℚ}
use Rattle.decimal18.specs.Bound.{value_of}
use Rattle.exact_law.specs.Degrees.{row, first_row, later_rows, infinite_row, thousandths, row_at, row_of}
use Rattle.table_g2.proofs.laws.worked_points.Goals as goal

pub returns : goal.returns
unfolding is_at_most_ℚ is_at_most value_of /_rec₂ /_rec row first_row later_rows infinite_row thousandths row_at row_of
returns c = record {
  four = refl;
  four_9545 = refl;
  four_99 = refl;
  sixteen = refl;
  between = refl;
  above_20 = refl;
  below_100 = refl;
  at_100 = refl;
  great = refl;
}
