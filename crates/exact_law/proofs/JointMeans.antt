-- The covariance of two means of joint readings: its divisor, and its bound where all readings are between
-- -K and K.
use Rattle.std.specs.Prelude.{◌≡◌, ℕ, ◌-◌, ◌*◌, ◌<◌, ◌≤◌, pos}
use Rattle.std.proofs.Common.{sym, ◌∙◌, ap, arith}
use Rattle.std.proofs.Math.Nat.{mul-pos}
use Rattle.exact_fraction.specs.Number.{ℚ, of_ℤ, ◌*ℚ◌, ◌/ℚ◌}
use Rattle.exact_fraction.specs.NumberLaws.{*ℚ_comm}
use Rattle.exact_fraction.proofs.Quotients.{positive_not_zero}
use Rattle.exact_fraction.proofs.Signs.{whole-not_negative, of_pos-*}
use Rattle.exact_fraction.proofs.Within.{Within, within_quotient, within_same, within_as}
use Rattle.exact_fraction.proofs.Spread.{spread, within_spread}
use Rattle.exact_law.specs.Law.{joint}

pub divisor_is : (n : ℕ) → of_ℤ (pos (n * n * (n - 1))) ≡ of_ℤ (pos n) *ℚ of_ℤ (pos n) *ℚ of_ℤ (pos (n - 1))
divisor_is n = of_pos-* (n * n) (n - 1) ∙ ap (λ t. t *ℚ of_ℤ (pos (n - 1))) (of_pos-* n n)

pub divisor_positive : (n : ℕ) → 2 ≤ n → 0 < n * n * (n - 1)
divisor_positive n h = mul-pos (mul-pos positive positive) less where
  positive : 0 < n
  positive = omega (arith, h)

  less : 0 < n - 1
  less = omega (arith, h)

pub within_joint : (q r : ℕ → ℚ) (k : ℚ) (n : ℕ) → 2 ≤ n → ((i : ℕ) → i < n → Within (q i) k) → ((i : ℕ) → i < n → Within (r i) k)
    → Within (joint n q r) (k *ℚ k)
unfolding joint
within_joint q r k n h f g =
    let d = of_ℤ (pos (n * n * (n - 1))) in
    within_same _ (spread n q r /ℚ d) _ (ap (λ t. spread n q r /ℚ t) (sym (divisor_is n)))
    (within_quotient (spread n q r) (k *ℚ k) d (whole-not_negative _) (positive_not_zero _ (divisor_positive n h))
    (within_as _ (d *ℚ (k *ℚ k)) _ (*ℚ_comm d (k *ℚ k)) (within_spread q r k n h f g)))
