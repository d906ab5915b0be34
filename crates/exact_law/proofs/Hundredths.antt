-- Each number that is not negative has hundredths, and a correlation coefficient has them in one way.
use Rattle.std.specs.Prelude.{◌≡◌, ℕ, zero, suc, ◌-◌, ◌*◌, ◌+◌, [], ◌∷◌, ℤ, pos, negsuc, ◌≤ℤ◌, ◌<ℤ◌, unsigned_abs, refl}
use Rattle.std.proofs.Common.{sym, ◌∙◌, ap, subst, arith}
use Rattle.std.proofs.lemmas.Int.{ints}
use std.Quotient.{/_rec, /_rec₂}
use Rattle.exact_fraction.specs.Fraction.{◌⊗◌, is_at_most}
use Rattle.exact_fraction.specs.Number.{ℚ, of_ℤ, ◌*ℚ◌, ◌/ℚ◌, inv_ℚ, is_at_most_ℚ, ◌≤ℚ◌, ◌<ℚ◌}
use Rattle.exact_fraction.specs.NumberLaws.{≤ℚ_trans, ≤ℚ_antisym, ≤ℤ-of_≤ℚ}
use Rattle.exact_fraction.proofs.OrderLaws.{*ℚ-not_negative}
use Rattle.exact_fraction.proofs.Ring.{Whole, ◌:*◌, x0, ring}
use Rattle.exact_fraction.proofs.Signs.{whole-not_negative}
use Rattle.exact_fraction.proofs.Strict.{below_by}
use Rattle.exact_law.specs.Rounding.{IsHundredths, IsCorrelation}
use Rattle.exact_law.proofs.Digits.{find, whole_above}
use Rattle.exact_law.proofs.RoundingLaws.{hundredths-unique}

-- (2 m - 1)², from which m hundredths are taken for the root
start : ℕ → ℚ
start m = of_ℤ (pos ((2 * m - 1) * (2 * m - 1)))

end_is_start : (m : ℕ) → start (suc m) ≡ of_ℤ (pos ((2 * m + 1) * (2 * m + 1)))
unfolding start
end_is_start m =
    let e : 2 * suc m - 1 ≡ 2 * m + 1 = omega arith in
    ap (λ k. of_ℤ (pos (k * k))) e

start_rises : (n : ℕ) (x : ℚ) → x ≤ℚ of_ℤ (pos n) → x <ℚ start (suc n)
start_rises n x h = subst (λ t. x <ℚ t) (sym (end_is_start n)) (below_by x _ (λ k. too_low (≤ℤ-of_≤ℚ _ _ (≤ℚ_trans _ x _ k h)))) where
  too_low : pos ((2 * n + 1) * (2 * n + 1)) ≤ℤ pos n → ⊥
  too_low g = omega (arith, ints)

pub hundredths-exist : (x : ℚ) → of_ℤ (pos 0) ≤ℚ x → (m : ℕ) × IsHundredths x m
unfolding start
hundredths-exist x x0' =
    let above = whole_above (of_ℤ (pos 40000) *ℚ x) in
    let found = find start (of_ℤ (pos 40000) *ℚ x) (suc above.0) (*ℚ-not_negative _ x (whole-not_negative 40000) x0') (start_rises above.0 _ above.1) in
    (found.0, record { low = found.2; high = subst (λ t. (of_ℤ (pos 40000) *ℚ x) <ℚ t) (end_is_start found.0) found.3 })

-- ---- the correlation coefficient
zero_hundredths : IsHundredths (of_ℤ (pos 0)) 0
unfolding ◌*ℚ◌ ◌⊗◌ is_at_most_ℚ is_at_most /_rec₂ /_rec
zero_hundredths = record { low = record { holds = refl }; high = record { not_above = refl } }

no_magnitude : (c v w : ℚ) (m : ℕ) → of_ℤ (pos 0) ≤ℚ c → c ≤ℚ of_ℤ (pos 0) → IsHundredths (c *ℚ c /ℚ (v *ℚ w)) m → m ≡ 0
no_magnitude c v w m h k d =
    let c0 : c ≡ of_ℤ (pos 0) = ≤ℚ_antisym _ _ k h in
    hundredths-unique (of_ℤ (pos 0)) m 0
    (subst (λ t. IsHundredths t m)
    (ap (λ t. t *ℚ t /ℚ (v *ℚ w)) c0 ∙ ring (inv_ℚ (v *ℚ w) ∷ []) (Whole (pos 0) :* Whole (pos 0) :* x0) (Whole (pos 0)) refl) d)
    zero_hundredths

pub correlation-unique : (c v w : ℚ) (d e : ℤ) → IsCorrelation c v w d → IsCorrelation c v w e → d ≡ e
correlation-unique c v w d e h k =
    by d e (hundredths-unique _ _ _ h.magnitude k.magnitude)
    (λ i j. no_magnitude c v w _ (h.positive i) (k.negative j) h.magnitude)
    (λ i j. no_magnitude c v w _ (k.positive j) (h.negative i) h.magnitude) where
      by : (d e : ℤ) → unsigned_abs d ≡ unsigned_abs e → (pos 0 <ℤ d → e <ℤ pos 0 → unsigned_abs d ≡ 0)
          → (d <ℤ pos 0 → pos 0 <ℤ e → unsigned_abs d ≡ 0) → d ≡ e
      by (pos m) (pos n) i up down = ap pos i
      by (pos zero) (negsuc n) i up down = absurd (omega arith)
      by (pos (suc m)) (negsuc n) i up down = let g = up (omega (arith, ints)) (omega (arith, ints)) in absurd (omega arith)
      by (negsuc m) (pos zero) i up down = absurd (omega arith)
      by (negsuc m) (pos (suc n)) i up down = let g = down (omega (arith, ints)) (omega (arith, ints)) in absurd (omega arith)
      by (negsuc m) (negsuc n) i up down = let g : m ≡ n = omega arith in ap negsuc g
