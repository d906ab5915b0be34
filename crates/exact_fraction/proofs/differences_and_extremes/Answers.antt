use Rattle.exact_fraction.specs.NumberLaws.{≤ℚ_trans}
use Rattle.exact_fraction.proofs.OrderLaws.{≡-difference}
use Rattle.exact_fraction.proofs.Strict.{below_not, below_by}
use Rattle.exact_fraction.proofs.Extremes.{min-≤_left, min-≤_right, ≤-min, max-≥_left, max-≥_right, max-≤}
use Rattle.exact_fraction.proofs.differences_and_extremes.Goals as goal

pub returns : goal.returns
returns c = record {
  difference = ≡-difference;
  below = λ x y. (below_not x y, below_by x y);
  lesser = λ x y z. (
    λ h. (≤ℚ_trans _ _ _ h (min-≤_left x y), ≤ℚ_trans _ _ _ h (min-≤_right x y)),
    λ h. ≤-min z x y h.0 h.1,
  );
  greater = λ x y z. (
    λ h. (≤ℚ_trans _ _ _ (max-≥_left x y) h, ≤ℚ_trans _ _ _ (max-≥_right x y) h),
    λ h. max-≤ z x y h.0 h.1,
  );
}
