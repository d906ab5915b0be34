use Rattle.exact_fraction.specs.NumberLaws.{+ℚ_comm, +ℚ_assoc, +ℚ-zero, +ℚ-neg, *ℚ_comm, *ℚ_assoc, *ℚ-one, *ℚ-+ℚ}
use Rattle.exact_fraction.proofs.numbers_are_a_commutative_ring.Goals as goal

pub returns : goal.returns
returns c = record {
  sum_in_any_order = +ℚ_comm;
  sum_in_any_grouping = +ℚ_assoc;
  sum_with_zero = +ℚ-zero;
  sum_with_negative = +ℚ-neg;
  product_in_any_order = *ℚ_comm;
  product_in_any_grouping = *ℚ_assoc;
  product_with_one = *ℚ-one;
  product_with_sum = *ℚ-+ℚ;
}
