-- Numbers that are not negative, and products that are 0.
use Rattle.std.specs.Prelude.{◌≡◌, ℕ, suc, ◌+◌, ◌*◌, ◌≤◌, Bool, true, false, List, [], ◌∷◌, pos, refl}
use Rattle.std.proofs.Common.{sym, ◌∙◌, ap, arith}
use Rattle.std.proofs.lemmas.Int.{ints}
use std.Quotient.{/_rec}
use Rattle.exact_fraction.specs.Fraction.{inverse}
use Rattle.exact_fraction.specs.Number.{ℚ, of_ℤ, ◌+ℚ◌, ◌*ℚ◌, inv_ℚ, is_zero_ℚ, ◌≤ℚ◌}
use Rattle.exact_fraction.specs.NumberLaws.{≤ℚ_refl, ≤ℚ_same, of_ℤ-≤ℚ, of_ℤ-+, of_ℤ-*, *ℚ-inv}
use Rattle.exact_fraction.specs.Sums.{total}
use Rattle.exact_fraction.proofs.Quotients.{is_zero_ℚ-≡}
use Rattle.exact_fraction.proofs.OrderLaws.{≤ℚ_right, *ℚ-≤ℚ_left, +ℚ-not_negative, inv_ℚ-not_negative}
use Rattle.exact_fraction.proofs.Ring.{Whole, ◌:*◌, x0, x1, x2, ring}

-- a number that is not negative, and its equals
pub not_negative-same : (x y : ℚ) → x ≡ y → of_ℤ (pos 0) ≤ℚ y → of_ℤ (pos 0) ≤ℚ x
not_negative-same x y e h = ≤ℚ_right _ y x (sym e) h

pub whole-not_negative : (n : ℕ) → of_ℤ (pos 0) ≤ℚ of_ℤ (pos n)
whole-not_negative n = of_ℤ-≤ℚ (pos 0) (pos n) (omega (arith, ints))

-- order, sums and products of whole numbers that are not negative
pub of_pos-≤ℚ : (a b : ℕ) → a ≤ b → of_ℤ (pos a) ≤ℚ of_ℤ (pos b)
of_pos-≤ℚ a b h = of_ℤ-≤ℚ (pos a) (pos b) (omega (arith, ints, h))

pub of_pos-+ : (a b : ℕ) → of_ℤ (pos (a + b)) ≡ of_ℤ (pos a) +ℚ of_ℤ (pos b)
of_pos-+ a b = of_ℤ-+ (pos a) (pos b)

pub of_pos-suc : (n : ℕ) → of_ℤ (pos (suc n)) ≡ of_ℤ (pos 1) +ℚ of_ℤ (pos n)
of_pos-suc n =
    let e : suc n ≡ 1 + n = omega arith in
    ap (λ k. of_ℤ (pos k)) e ∙ of_pos-+ 1 n

pub of_pos-* : (a b : ℕ) → of_ℤ (pos (a * b)) ≡ of_ℤ (pos a) *ℚ of_ℤ (pos b)
of_pos-* a b = of_ℤ-* (pos a) (pos b)

zero-inv : inv_ℚ (of_ℤ (pos 0)) ≡ of_ℤ (pos 0)
unfolding inv_ℚ /_rec inverse
zero-inv = refl

-- the inverse of what is not negative is not, also the one of 0, which means nothing
pub inv-not_negative : (x : ℚ) → of_ℤ (pos 0) ≤ℚ x → of_ℤ (pos 0) ≤ℚ inv_ℚ x
inv-not_negative x h = by (is_zero_ℚ x) refl where
  by : (b : Bool) → is_zero_ℚ x ≡ b → of_ℤ (pos 0) ≤ℚ inv_ℚ x
  by true e = ≤ℚ_same _ _ (sym (ap inv_ℚ (is_zero_ℚ-≡ x e) ∙ zero-inv))
  by false e = inv_ℚ-not_negative x h e

pub total-not_negative : {A : Type 0} (f : A → ℚ) (xs : List A) → ((x : A) → of_ℤ (pos 0) ≤ℚ f x) → of_ℤ (pos 0) ≤ℚ total f xs
unfolding total
total-not_negative f [] h = ≤ℚ_refl _
total-not_negative f (x ∷ xs) h = +ℚ-not_negative _ _ (h x) (total-not_negative f xs h)

-- along a whole factor that is not negative
pub times-≤ℚ : (k : ℕ) (x y : ℚ) → x ≤ℚ y → of_ℤ (pos k) *ℚ x ≤ℚ of_ℤ (pos k) *ℚ y
times-≤ℚ k x y h = *ℚ-≤ℚ_left x y (of_ℤ (pos k)) (whole-not_negative k) h

-- ---- products that are 0
pub product_zero : (x y : ℚ) → is_zero_ℚ x ≡ false → x *ℚ y ≡ of_ℤ (pos 0) → y ≡ of_ℤ (pos 0)
product_zero x y n h =
    ring (y ∷ []) x0 (Whole (pos 1) :* x0) refl ∙ ap (λ t. t *ℚ y) (sym (*ℚ-inv x n))
    ∙ ring (x ∷ inv_ℚ x ∷ y ∷ []) (x0 :* x1 :* x2) (x1 :* (x0 :* x2)) refl
    ∙ ap (λ t. inv_ℚ x *ℚ t) h ∙ ring (inv_ℚ x ∷ []) (x0 :* Whole (pos 0)) (Whole (pos 0)) refl
