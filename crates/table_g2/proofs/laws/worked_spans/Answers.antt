use Rattle.std.specs.Prelude.{refl}
use std.Quotient.{/_rec, /_rec₂}
use Rattle.exact_fraction.specs.Fraction.{is_at_most}
use Rattle.exact_fraction.specs.Number.{is_at_most_ℚ}
use Rattle.decimal18.specs.Bound.{value_of}
use Rattle.exact_law.specs.Degrees.{row, first_row, later_rows, infinite_row, thousandths, row_at, row_of}
use Rattle.table_g2.proofs.laws.worked_spans.Goals as goal

pub returns : goal.returns
unfolding is_at_most_ℚ is_at_most value_of /_rec₂ /_rec row first_row later_rows infinite_row thousandths row_at row_of
returns c = record {
  range = refl;
  without_end = refl;
  infinite_95 = refl;
  infinite_9545 = refl;
  infinite_99 = refl;
  none = refl;
}
