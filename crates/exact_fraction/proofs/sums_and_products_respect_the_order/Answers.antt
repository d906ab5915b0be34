use Rattle.exact_fraction.specs.NumberLaws.{+ℚ-≤ℚ_both, neg_ℚ-≤ℚ, *ℚ-≤ℚ}
use Rattle.exact_fraction.proofs.Quotients.{≢-is_zero_ℚ}
use Rattle.exact_fraction.proofs.OrderLaws.{≤ℚ-difference, ≤ℚ-of_difference, *ℚ-≤ℚ_turned, square-not_negative, inv_ℚ-not_negative, ≤ℚ-/ℚ}
use Rattle.exact_fraction.proofs.sums_and_products_respect_the_order.Goals as goal

pub returns : goal.returns
returns c = record {
  sum = +ℚ-≤ℚ_both;
  negative = neg_ℚ-≤ℚ;
  difference = λ x y. (≤ℚ-difference x y, ≤ℚ-of_difference x y);
  product = *ℚ-≤ℚ;
  product_turned = *ℚ-≤ℚ_turned;
  square = square-not_negative;
  inverse = λ x h n. inv_ℚ-not_negative x h (≢-is_zero_ℚ x n);
  quotient = λ x y z h n. ≤ℚ-/ℚ x y z h (≢-is_zero_ℚ z n);
}
