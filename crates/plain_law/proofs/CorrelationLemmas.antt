-- The sign of a correlation coefficient.
use Rattle.std.specs.Prelude.{◌≡◌, ℕ, zero, suc, Bool, false, ℤ, pos, neg_ℤ, unsigned_abs, refl}
use Rattle.std.proofs.Common.{sym, ◌∙◌, ap, subst, arith}
use Rattle.std.proofs.lemmas.Int.{ints}
use Rattle.exact_fraction.specs.Number.{ℚ, of_ℤ, ◌*ℚ◌, ◌/ℚ◌, is_at_most_ℚ, ◌<ℚ◌}
use Rattle.exact_fraction.specs.NumberLaws.{≤ℚ-turned}
use Rattle.exact_law.specs.Rounding.{IsHundredths, IsCorrelation}

size_of_negative : (m : ℕ) → unsigned_abs (neg_ℤ (pos m)) ≡ m
size_of_negative zero = refl
size_of_negative (suc m) = refl

-- by a test of the order with 0
pub above_zero : (x z : ℚ) (b : Bool) → z ≡ of_ℤ (pos 0) → b ≡ is_at_most_ℚ x z → b ≡ false → of_ℤ (pos 0) <ℚ x
above_zero x z b e f g = record { not_above = ap (is_at_most_ℚ x) (sym e) ∙ sym f ∙ g }

pub negative_correlation : (c v w s : ℚ) (m : ℕ) (d : ℤ) → IsHundredths s m → s ≡ c *ℚ c /ℚ (v *ℚ w) → is_at_most_ℚ (of_ℤ (pos 0)) c ≡ false
    → d ≡ neg_ℤ (pos m) → of_ℤ (pos 0) <ℚ v → of_ℤ (pos 0) <ℚ w → IsCorrelation c v w d
negative_correlation c v w s m d h e n f v0 w0 = record {
  first = v0;
  second = w0;
  magnitude = subst (λ t. IsHundredths t (unsigned_abs d)) e (subst (λ k. IsHundredths s k) (sym (ap unsigned_abs f ∙ size_of_negative m)) h);
  positive = λ g. absurd (omega (arith, ints));
  negative = λ _. ≤ℚ-turned (of_ℤ (pos 0)) c n;
}
