use Rattle.std.proofs.Common.{ap}
use Rattle.exact_fraction.specs.Number.{of_ℤ}
use Rattle.exact_fraction.specs.NumberLaws.{of_ℤ-+, of_ℤ-*, of_ℤ-neg, ≤ℤ-of_≤ℚ, of_ℤ-≤ℚ}
use Rattle.exact_fraction.proofs.OrderLaws.{of_ℤ-injective}
use Rattle.exact_fraction.proofs.whole_numbers_keep_sum_product_order.Goals as goal

pub returns : goal.returns
returns c = record {
  sum = of_ℤ-+;
  product = of_ℤ-*;
  negative = of_ℤ-neg;
  order = λ a b. (≤ℤ-of_≤ℚ a b, of_ℤ-≤ℚ a b);
  equality = λ a b. (of_ℤ-injective a b, ap of_ℤ);
}
