-- Powers of ten as places, and decimal numbers by them.
use Rattle.std.specs.Prelude.{◌≡◌, ℕ, zero, suc, ◌*◌, ◌^◌, false, ℤ, pos, negsuc, ◌+ℤ◌, ◌≤ℤ◌, refl, [], ◌∷◌}
use Rattle.std.proofs.Common.{sym, ◌∙◌, ap, arith}
use Rattle.std.proofs.lemmas.Int.{ints}
use Rattle.exact_fraction.specs.Number.{ℚ, of_ℤ, ◌*ℚ◌, is_zero_ℚ, ◌≤ℚ◌, ◌<ℚ◌}
use Rattle.exact_fraction.specs.NumberLaws.{≤ℚ_same}
use Rattle.exact_fraction.proofs.Strict.{below_by}
use Rattle.exact_fraction.specs.Powers.{power}
use Rattle.exact_fraction.proofs.OrderLaws.{of_ℤ-injective, ≤ℚ_left, ≤ℚ_right}
use Rattle.exact_fraction.proofs.Quotients.{≢-is_zero_ℚ, *ℚ_cancel, number_of-den, positive_not_zero}
use Rattle.exact_fraction.proofs.Ring.{Whole, ◌:*◌, x0, x1, x2, ring}
use Rattle.exact_fraction.proofs.Signs.{of_pos-*}
use Rattle.exact_law.specs.Rounding.{ten_to}
use Rattle.exact_law.proofs.RoundingLaws.{ten_to-next}
use Rattle.decimal18.specs.Bound.{Bound, scaled, fraction_of, value_of}
use Rattle.decimal18.proofs.Values.{value-rises}
use Rattle.decimal18.proofs.CutOff.{value-order}
use Rattle.decimal18.proofs.Canonical.{power_positive}

pub power_not_zero : (p : ℕ) → is_zero_ℚ (of_ℤ (pos (10 ^ p))) ≡ false
power_not_zero p = positive_not_zero (10 ^ p) (power_positive p)

pub ten_to-plus : (e : ℤ) (s : ℕ) → ten_to (e +ℤ pos s) ≡ ten_to e *ℚ of_ℤ (pos (10 ^ s))
ten_to-plus e zero =
    ap ten_to (nothing e) ∙ ring (ten_to e ∷ []) x0 (x0 :* Whole (pos 1)) refl where
      nothing : (e : ℤ) → (e +ℤ pos 0) ≡ e
      nothing e = omega (arith, ints)
ten_to-plus e (suc s) =
    ap ten_to (more e s) ∙ ten_to-next (e +ℤ pos s) ∙ ap (λ t. t *ℚ of_ℤ (pos 10)) (ten_to-plus e s)
    ∙ ring (ten_to e ∷ of_ℤ (pos (10 ^ s)) ∷ of_ℤ (pos 10) ∷ []) ((x0 :* x1) :* x2) (x0 :* (x1 :* x2)) refl
    ∙ ap (λ t. ten_to e *ℚ t) (sym (of_pos-* (10 ^ s) 10) ∙ ap (λ n. of_ℤ (pos n)) (power s)) where
      more : (e : ℤ) (s : ℕ) → (e +ℤ pos (suc s)) ≡ ((e +ℤ pos s) +ℤ pos 1)
      more e s = omega (arith, ints)

      power : (s : ℕ) → 10 ^ s * 10 ≡ 10 ^ suc s
      power s = omega arith

-- a place to the right of the ones has its inverse
pub ten_to-inverse : (e : ℤ) (s : ℕ) → (e +ℤ pos s) ≡ pos 0 → ten_to e *ℚ of_ℤ (pos (10 ^ s)) ≡ of_ℤ (pos 1)
unfolding ten_to power
ten_to-inverse e s h = sym (ten_to-plus e s) ∙ ap ten_to h

factor_not_zero : (x y : ℚ) → x *ℚ y ≡ of_ℤ (pos 1) → is_zero_ℚ x ≡ false
factor_not_zero x y h =
    ≢-is_zero_ℚ x (λ e. let g : pos 0 ≡ pos 1 = of_ℤ-injective _ _ (sym (ap (λ t. t *ℚ y) e ∙ ring (y ∷ []) (Whole (pos 0) :* x0) (Whole (pos 0)) refl) ∙ h) in
    cc)

pub left_place : (n : ℕ) → ten_to (pos n) ≡ of_ℤ (pos (10 ^ n))
unfolding ten_to power
left_place n = ap ten_to (same n) ∙ ten_to-plus (pos 0) n ∙ ring (of_ℤ (pos (10 ^ n)) ∷ []) (Whole (pos 1) :* x0) x0 refl where
  same : (n : ℕ) → pos n ≡ (pos 0 +ℤ pos n)
  same n = omega (arith, ints)

pub cancels : (n : ℕ) → (negsuc n +ℤ pos (suc n)) ≡ pos 0
cancels n = omega (arith, ints)

pub ten_to-not_zero : (e : ℤ) → is_zero_ℚ (ten_to e) ≡ false
ten_to-not_zero (pos n) = ap is_zero_ℚ (left_place n) ∙ power_not_zero n
ten_to-not_zero (negsuc n) = factor_not_zero _ _ (ten_to-inverse (negsuc n) (suc n) (cancels n))

-- ---- decimal numbers
pub value_times : (c : ℤ) (p : ℕ) → value_of (scaled c p) *ℚ of_ℤ (pos (10 ^ p)) ≡ of_ℤ c
unfolding value_of
value_times c p = number_of-den (fraction_of (scaled c p))

-- ---- the sign of a bound is that of its coefficient
zero_at : (p : ℕ) → value_of (scaled (pos 0) p) ≡ of_ℤ (pos 0)
zero_at p =
    *ℚ_cancel _ _ (of_ℤ (pos (10 ^ p))) (power_not_zero p)
    (value_times (pos 0) p ∙ ring (of_ℤ (pos (10 ^ p)) ∷ []) (Whole (pos 0)) (Whole (pos 0) :* x0) refl)

pub none_above : (b : Bound) → b.coefficient ≤ℤ pos 0 → value_of b ≤ℚ of_ℤ (pos 0)
none_above b h = ≤ℚ_right _ _ _ (zero_at b.places) (value-rises b.coefficient (pos 0) b.places h)

pub none_below : (b : Bound) → pos 0 ≤ℤ b.coefficient → of_ℤ (pos 0) ≤ℚ value_of b
none_below b h = ≤ℚ_left _ _ _ (sym (zero_at b.places)) (value-rises (pos 0) b.coefficient b.places h)

pub coefficient_above : (b : Bound) → value_of b ≤ℚ of_ℤ (pos 0) → b.coefficient ≤ℤ pos 0
coefficient_above b h = value-order b.coefficient (pos 0) b.places (≤ℚ_right _ _ _ (sym (zero_at b.places)) h)

pub coefficient_below : (b : Bound) → of_ℤ (pos 0) ≤ℚ value_of b → pos 0 ≤ℤ b.coefficient
coefficient_below b h = value-order (pos 0) b.coefficient b.places (≤ℚ_left _ _ _ (zero_at b.places) h)

pub above_zero : (b : Bound) → (b.coefficient ≤ℤ pos 0 → ⊥) → of_ℤ (pos 0) <ℚ value_of b
above_zero b h = below_by _ _ (λ g. h (coefficient_above b g))

pub below_zero : (b : Bound) → (pos 0 ≤ℤ b.coefficient → ⊥) → value_of b <ℚ of_ℤ (pos 0)
below_zero b h = below_by _ _ (λ g. h (coefficient_below b g))

pub not_zero : (b : Bound) → (b.coefficient ≤ℤ pos 0 → ⊥) → value_of b ≡ of_ℤ (pos 0) → ⊥
not_zero b h e = h (coefficient_above b (≤ℚ_same _ _ e))
