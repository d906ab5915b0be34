use Rattle.exact_fraction.specs.NumberLaws.{*ℚ-inv}
use Rattle.exact_fraction.proofs.Quotients.{is_zero_ℚ-≡, ≡-is_zero_ℚ, ≢-is_zero_ℚ, ≡-/ℚ}
use Rattle.exact_fraction.proofs.numbers_have_quotients.Goals as goal

pub returns : goal.returns
returns c = record {
  test_for_zero = λ x. (is_zero_ℚ-≡ x, ≡-is_zero_ℚ x);
  inverse = λ x h. *ℚ-inv x (≢-is_zero_ℚ x h);
  quotient = λ q x y h. ≡-/ℚ q x y (≢-is_zero_ℚ y h);
}
