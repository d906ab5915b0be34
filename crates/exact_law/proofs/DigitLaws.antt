-- The digits of each number that is not negative, also of 0.
use Rattle.std.specs.Prelude.{◌≡◌, ℕ, ◌+◌, ◌*◌, ◌≤◌, [], ◌∷◌, ℤ, pos, ◌*ℤ◌, ◌⊎◌, refl}
use Rattle.std.proofs.Common.{sym, ◌∙◌, ap, ap₂, arith, inl, inr}
use Rattle.std.proofs.lemmas.Int.{ints}
use Rattle.std.proofs.lemmas.Bool.Decides.{nat_tests}
use Rattle.exact_fraction.specs.Number.{ℚ, of_ℤ, ◌*ℚ◌, ◌≤ℚ◌, ◌<ℚ◌}
use Rattle.exact_fraction.specs.NumberLaws.{≤ℚ_trans, ≤ℚ_antisym, of_ℤ-*}
use Rattle.exact_fraction.proofs.OrderLaws.{≤ℚ_left, ≤ℚ_right}
use Rattle.exact_fraction.proofs.Ring.{Whole, ◌:*◌, x0, x1, ring}
use Rattle.exact_fraction.proofs.Signs.{times-≤ℚ}
use Rattle.exact_fraction.proofs.Strict.{below_not, below_or_not}
use Rattle.exact_law.specs.Rounding.{ten_to, least_root, scaled_square, Digits, Zero, Two, AreDigitsOf, IsTwoDigits}
use Rattle.exact_law.proofs.RoundingLaws.{scaled_square-rises, two_digits-unique}
use Rattle.exact_law.proofs.Digits.{two_digits-exist}

pub digits-exist : (v : ℚ) → of_ℤ (pos 0) ≤ℚ v → (d : Digits) × AreDigitsOf v d
unfolding AreDigitsOf
digits-exist v h = by (below_or_not (of_ℤ (pos 0)) v) where
  by : (of_ℤ (pos 0) <ℚ v) ⊎ (v ≤ℚ of_ℤ (pos 0)) → (d : Digits) × AreDigitsOf v d
  by (inl k) = let t = two_digits-exist v k in (Two t.0 (t.1).0, (t.1).1)
  by (inr k) = (Zero, ≤ℚ_antisym _ _ k h)

-- the end of an interval of roots is at most twice its start
twice : (m : ℕ) → 10 ≤ m → 20 * m + 10 ≤ 2 * least_root m
twice m h = grind (arith, nat_tests)

four_times : (r : ℕ) (e : ℤ) → scaled_square (2 * r) e ≡ of_ℤ (pos 4) *ℚ scaled_square r e
unfolding scaled_square
four_times r e =
    ap (λ t. t *ℚ (ten_to e *ℚ ten_to e)) (ap of_ℤ (four r) ∙ of_ℤ-* (pos 4) (pos (r * r)))
    ∙ ring (of_ℤ (pos (r * r)) ∷ ten_to e ∷ []) (Whole (pos 4) :* x0 :* (x1 :* x1)) (Whole (pos 4) :* (x0 :* (x1 :* x1))) refl where
      four : (r : ℕ) → pos ((2 * r) * (2 * r)) ≡ (pos 4 *ℤ pos (r * r))
      four r = omega (arith, ints)

no_digits_of_zero : (v : ℚ) (m : ℕ) (e : ℤ) → v ≡ of_ℤ (pos 0) → IsTwoDigits v m e → ⊥
no_digits_of_zero v m e z d = below_not _ _ d.high at_most where
  nothing : of_ℤ (pos 400) *ℚ v ≡ of_ℤ (pos 0)
  nothing = ap (λ t. of_ℤ (pos 400) *ℚ t) z ∙ ring [] (Whole (pos 400) :* Whole (pos 0)) (Whole (pos 0)) refl

  at_most : scaled_square (20 * m + 10) e ≤ℚ of_ℤ (pos 400) *ℚ v
  at_most =
      ≤ℚ_trans _ (scaled_square (2 * least_root m) e) _ (scaled_square-rises (20 * m + 10) (2 * least_root m) e (twice m d.at_least_10))
      (≤ℚ_left _ _ _ (four_times (least_root m) e)
      (≤ℚ_right _ (of_ℤ (pos 4) *ℚ (of_ℤ (pos 400) *ℚ v)) _
      (ap (λ t. of_ℤ (pos 4) *ℚ t) nothing ∙ ring [] (Whole (pos 4) :* Whole (pos 0)) (Whole (pos 0)) refl ∙ sym nothing)
      (times-≤ℚ 4 _ _ d.low)))

pub digits-unique : (v : ℚ) (d e : Digits) → AreDigitsOf v d → AreDigitsOf v e → d ≡ e
unfolding AreDigitsOf
digits-unique v Zero Zero h k = refl
digits-unique v Zero (Two m e) h k = absurd (no_digits_of_zero v m e h k)
digits-unique v (Two m e) Zero h k = absurd (no_digits_of_zero v m e k h)
digits-unique v (Two m e) (Two n f) h k = let same = two_digits-unique v m n e f h k in ap₂ Two same.0 same.1
