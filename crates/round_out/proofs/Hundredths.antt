-- Tests of whole numbers are tests of hundredths.
use Rattle.std.specs.Prelude.{◌≡◌, ℕ, ◌+◌, ◌-◌, ◌*◌, ◌≤◌, ◌<◌, ◌^◌, ℤ, pos, negsuc, ◌≤ℤ◌, unsigned_abs, refl, [], ◌∷◌}
use Rattle.std.proofs.Common.{sym, ◌∙◌, ap, subst, arith}
use Rattle.std.proofs.Math.Dec.{lit≤}
use Rattle.std.proofs.Math.Nat.{pow-le-pow_right}
use Rattle.std.proofs.Common.{mul-le-mul}
use Rattle.std.proofs.lemmas.Int.{ints}
use Rattle.exact_fraction.specs.Number.{of_ℤ, ◌*ℚ◌, ◌≤ℚ◌, ◌<ℚ◌}
use Rattle.exact_fraction.specs.NumberLaws.{*ℚ-≤ℚ, ≤ℤ-of_≤ℚ}
use Rattle.exact_fraction.proofs.OrderLaws.{≤ℚ_left, ≤ℚ_right, ≤ℚ_cancel}
use Rattle.exact_fraction.proofs.Ring.{Whole, ◌:*◌, x0, x1, x2, ring}
use Rattle.exact_fraction.proofs.Signs.{whole-not_negative, of_pos-*, of_pos-≤ℚ}
use Rattle.exact_fraction.proofs.Strict.{below_by}
use Rattle.exact_law.specs.Rounding.{IsHundredths}
use Rattle.decimal18.specs.Bound.{Bound, scaled, value_of}
use Rattle.round_out.proofs.Tens.{power_not_zero, value_times, coefficient_below}

-- 40000 n / 10^p
size_is : (n p : ℕ) → (of_ℤ (pos 40000) *ℚ value_of (scaled (pos n) p)) *ℚ of_ℤ (pos (10 ^ p)) ≡ of_ℤ (pos (n * 40000))
size_is n p =
    ring (of_ℤ (pos 40000) ∷ value_of (scaled (pos n) p) ∷ of_ℤ (pos (10 ^ p)) ∷ []) ((x0 :* x1) :* x2) ((x1 :* x2) :* x0) refl
    ∙ ap (λ t. t *ℚ of_ℤ (pos 40000)) (value_times (pos n) p) ∙ sym (of_pos-* n 40000)

test_low : (n p r : ℕ) → r * 10 ^ p ≤ n * 40000 → of_ℤ (pos r) ≤ℚ of_ℤ (pos 40000) *ℚ value_of (scaled (pos n) p)
test_low n p r h =
    ≤ℚ_cancel _ _ (of_ℤ (pos (10 ^ p))) (whole-not_negative (10 ^ p)) (power_not_zero p)
    (≤ℚ_left _ _ _ (sym (of_pos-* r (10 ^ p))) (≤ℚ_right _ _ _ (sym (size_is n p)) (of_pos-≤ℚ (r * 10 ^ p) (n * 40000) h)))

test_high : (n p r : ℕ) → n * 40000 < r * 10 ^ p → (of_ℤ (pos 40000) *ℚ value_of (scaled (pos n) p)) <ℚ of_ℤ (pos r)
test_high n p r h =
    below_by _ _
    (λ g.
    let least = ≤ℤ-of_≤ℚ (pos (r * 10 ^ p)) (pos (n * 40000))
    (≤ℚ_left _ _ _ (of_pos-* r (10 ^ p)) (≤ℚ_right _ _ _ (size_is n p) (*ℚ-≤ℚ _ _ (of_ℤ (pos (10 ^ p))) (whole-not_negative (10 ^ p)) g))) in
    omega (arith, ints))

hundredths : (n p m : ℕ) → (2 * m - 1) * (2 * m - 1) * 10 ^ p ≤ n * 40000 → n * 40000 < (2 * m + 1) * (2 * m + 1) * 10 ^ p
    → IsHundredths (value_of (scaled (pos n) p)) m
hundredths n p m low high = record { low = test_low n p _ low; high = test_high n p _ high }

-- the coefficient of a number that is not negative
sized : (b : Bound) → of_ℤ (pos 0) ≤ℚ value_of b → b.coefficient ≡ pos (unsigned_abs b.coefficient)
sized b h = by b.coefficient (coefficient_below b h) where
  by : (c : ℤ) → pos 0 ≤ℤ c → c ≡ pos (unsigned_abs c)
  by (pos n) h = refl
  by (negsuc n) h = absurd (omega (arith, ints))

pub hundredths_are : (b : Bound) (size unit m : ℕ) → of_ℤ (pos 0) ≤ℚ value_of b → size ≡ unsigned_abs b.coefficient * 40000 → unit ≡ 10 ^ b.places
    → (2 * m - 1) * (2 * m - 1) * unit ≤ size → size < (2 * m + 1) * (2 * m + 1) * unit → IsHundredths (value_of b) m
hundredths_are b size unit m h e f low high =
    subst (λ c. IsHundredths (value_of (scaled c b.places)) m) (sym (sized b h))
    (hundredths (unsigned_abs b.coefficient) b.places m
    (subst (λ t. (2 * m - 1) * (2 * m - 1) * t ≤ unsigned_abs b.coefficient * 40000) f (subst (λ t. (2 * m - 1) * (2 * m - 1) * unit ≤ t) e low))
    (subst (λ t. unsigned_abs b.coefficient * 40000 < (2 * m + 1) * (2 * m + 1) * t) f (subst (λ t. t < (2 * m + 1) * (2 * m + 1) * unit) e high)))

-- so many places that the number is less than half a hundredth
pub none_far : (b : Bound) → of_ℤ (pos 0) ≤ℚ value_of b → unsigned_abs b.coefficient < 10 ^ 18 → 22 < b.places → IsHundredths (value_of b) 0
none_far b h few far =
    let places : 23 ≤ b.places = omega arith in
    let most : 10 ^ 23 ≤ 10 ^ b.places = pow-le-pow_right {n = 10} (lit≤ tt) places in
    hundredths_are b _ _ 0 h refl refl (omega arith) (omega arith)

-- a number of at most 1
pub at_most_one : (b : Bound) (size unit : ℕ) → of_ℤ (pos 0) ≤ℚ value_of b → value_of b ≤ℚ of_ℤ (pos 1) → size ≡ unsigned_abs b.coefficient * 40000
    → unit ≡ 10 ^ b.places → size ≤ 40000 * unit
at_most_one b size unit h k e f =
    let within : of_ℤ b.coefficient ≤ℚ of_ℤ (pos (10 ^ b.places)) =
    ≤ℚ_left _ _ _ (sym (value_times b.coefficient b.places))
    (≤ℚ_right _ _ _ (ring (of_ℤ (pos (10 ^ b.places)) ∷ []) (Whole (pos 1) :* x0) x0 refl)
    (*ℚ-≤ℚ _ _ (of_ℤ (pos (10 ^ b.places))) (whole-not_negative (10 ^ b.places)) k)) in
    let least : b.coefficient ≤ℤ pos (10 ^ b.places) = ≤ℤ-of_≤ℚ _ _ within in
    small b.coefficient (10 ^ b.places) size unit (sized b h) least e f where
      small : (c : ℤ) (t size unit : ℕ) → c ≡ pos (unsigned_abs c) → c ≤ℤ pos t → size ≡ unsigned_abs c * 40000 → unit ≡ t → size ≤ 40000 * unit
      small c t size unit h k e f = omega (arith, ints)

-- ---- sizes
pub power_small : (p : ℕ) → p ≤ 22 → 10 ^ p ≤ 10 ^ 22
power_small p h = pow-le-pow_right {n = 10} (lit≤ tt) h

pub ends_small : (m p unit : ℕ) → m < 100 → p ≤ 22 → unit ≡ 10 ^ p → (2 * m + 1) * (2 * m + 1) * unit ≤ 199 * 199 * 10 ^ 22
ends_small m p unit h k e =
    let end : 2 * m + 1 ≤ 199 = omega arith in
    mul-le-mul (mul-le-mul end end) (subst (λ t. t ≤ 10 ^ 22) (sym e) (power_small p k))

pub one_small : (size unit : ℕ) → 0 < unit → size ≤ 40000 * unit → size < (2 * 100 + 1) * (2 * 100 + 1) * unit
one_small size unit h k = omega arith
