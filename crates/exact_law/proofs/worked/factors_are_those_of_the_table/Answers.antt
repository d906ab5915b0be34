use Rattle.std.specs.Prelude.{refl}
use std.Quotient.{/_rec, /_rec₂}
use Rattle.exact_fraction.specs.Fraction.{◌⊕◌, ◌⊗◌, negated, inverse, is_at_most, floor}
use Rattle.exact_fraction.specs.Number.{◌+ℚ◌, ◌*ℚ◌, neg_ℚ, inv_ℚ, is_zero_ℚ, is_at_most_ℚ, floor_ℚ}
use Rattle.exact_law.proofs.Lists.{same_lists}
use Rattle.exact_law.specs.Degrees.{row, first_row, later_rows, infinite_row, thousandths, row_at, row_of, factor_in, factor}
use Rattle.exact_law.proofs.worked.factors_are_those_of_the_table.Goals as goal

pub returns : goal.returns
unfolding ◌+ℚ◌ ◌*ℚ◌ neg_ℚ inv_ℚ is_zero_ℚ is_at_most_ℚ floor_ℚ ◌⊕◌ ◌⊗◌ negated inverse is_at_most floor /_rec₂ /_rec thousandths row first_row later_rows infinite_row row_at row_of factor_in factor
returns c = record {
  percent95 = refl;
  percent9545 = refl;
  percent99 = refl;
  infinite = refl;
  between = refl;
  degrees = refl;
  factor = same_lists _ _ refl;
}
