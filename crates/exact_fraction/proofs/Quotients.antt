-- The test for 0, quotients, and a fraction as the quotient of its parts.
use Rattle.std.specs.Prelude.{◌≡◌, ◌↔◌, ℕ, zero, suc, ◌*◌, ◌<◌, Bool, true, false, ℤ, pos, negsuc, ◌*ℤ◌, refl}
use Rattle.std.proofs.Common.{sym, ◌∙◌, ap, arith}
use Rattle.std.proofs.lemmas.Bool.{true≢false}
use Rattle.std.proofs.Math.IntN.{zero-*ℤ}
use mathlib.Core.HLevel.{Π_prop}
use std.Quotient.{eq/, /_set, /_rec, /_rec₂, /_elim_prop}
use Rattle.exact_fraction.specs.Fraction.{Fraction, ◌≈◌, ◌⊗◌, whole, is_zero_ℤ}
use Rattle.exact_fraction.specs.Floor.{times_one}
use Rattle.exact_fraction.specs.Number.{ℚ, number_of, of_ℤ, ◌*ℚ◌, ◌/ℚ◌, inv_ℚ, is_zero_ℚ}
use Rattle.exact_fraction.specs.NumberLaws.{*ℚ_comm, *ℚ_assoc, *ℚ-one, *ℚ-inv}

-- ---- the test for 0
zero_num : (q : Fraction) (z : ℤ) → q.num ≡ z → is_zero_ℤ z ≡ true → q ≈ whole (pos 0)
zero_num q (pos zero) e h = record { same = rw (times_one q.num, e) (sym (zero-*ℤ (pos q.den))) }
zero_num q (pos (suc n)) e h = absurd (true≢false (sym h))
zero_num q (negsuc n) e h = absurd (true≢false (sym h))

pub is_zero_ℚ-≡ : (x : ℚ) → is_zero_ℚ x ≡ true → x ≡ of_ℤ (pos 0)
unfolding is_zero_ℚ /_rec
is_zero_ℚ-≡ =
    /_elim_prop (λ x. is_zero_ℚ x ≡ true → x ≡ of_ℤ (pos 0)) (λ x. Π_prop (λ _. /_set _ _))
    (λ a h. eq/ a (whole (pos 0)) (zero_num a a.num refl h))

pub ≡-is_zero_ℚ : (x : ℚ) → x ≡ of_ℤ (pos 0) → is_zero_ℚ x ≡ true
unfolding is_zero_ℚ /_rec
≡-is_zero_ℚ x h = ap is_zero_ℚ h

pub ≢-is_zero_ℚ : (x : ℚ) → (x ≡ of_ℤ (pos 0) → ⊥) → is_zero_ℚ x ≡ false
≢-is_zero_ℚ x h = by (is_zero_ℚ x) refl where
  by : (b : Bool) → is_zero_ℚ x ≡ b → is_zero_ℚ x ≡ false
  by true e = absurd (h (is_zero_ℚ-≡ x e))
  by false e = e

pub positive_not_zero : (n : ℕ) → 0 < n → is_zero_ℚ (of_ℤ (pos n)) ≡ false
unfolding is_zero_ℚ /_rec
positive_not_zero zero h = absurd (omega (arith, h))
positive_not_zero (suc n) h = refl

-- ---- the quotient
pub /ℚ-*ℚ : (x y : ℚ) → is_zero_ℚ y ≡ false → (x /ℚ y) *ℚ y ≡ x
/ℚ-*ℚ x y y0 =
    *ℚ_assoc x (inv_ℚ y) y ∙ ap (λ t. x *ℚ t) (*ℚ_comm (inv_ℚ y) y ∙ *ℚ-inv y y0) ∙ *ℚ-one x

pub *ℚ-/ℚ : (x y : ℚ) → is_zero_ℚ y ≡ false → (x *ℚ y) /ℚ y ≡ x
*ℚ-/ℚ x y y0 = *ℚ_assoc x y (inv_ℚ y) ∙ ap (λ t. x *ℚ t) (*ℚ-inv y y0) ∙ *ℚ-one x

-- a factor that is not 0 is cancelled
pub *ℚ_cancel : (x y z : ℚ) → is_zero_ℚ z ≡ false → x *ℚ z ≡ y *ℚ z → x ≡ y
*ℚ_cancel x y z z0 h = sym (*ℚ-/ℚ x z z0) ∙ ap (λ t. t /ℚ z) h ∙ *ℚ-/ℚ y z z0

-- the quotient is the one number whose product with the divisor is x
pub ≡-/ℚ : (q x y : ℚ) → is_zero_ℚ y ≡ false → (q ≡ x /ℚ y) ↔ (q *ℚ y ≡ x)
≡-/ℚ q x y n = (λ h. ap (λ t. t *ℚ y) h ∙ /ℚ-*ℚ x y n, λ h. sym (*ℚ-/ℚ q y n) ∙ ap (λ t. t /ℚ y) h)

-- a fraction is the quotient of its parts
times_den : (a : ℤ) (k : ℕ) → ((a *ℤ pos k) *ℤ pos 1) ≡ (a *ℤ pos (k * 1))
times_den a k = rw (times_one (a *ℤ pos k)) (ap (λ n. a *ℤ pos n) (omega arith))

⊗-den : (q : Fraction) → q ⊗ whole (pos q.den) ≈ whole q.num
unfolding ◌⊗◌
⊗-den q = record { same = times_den q.num q.den }

pub number_of-den : (q : Fraction) → number_of q *ℚ of_ℤ (pos q.den) ≡ of_ℤ q.num
unfolding ◌*ℚ◌ /_rec₂ /_rec
number_of-den q = eq/ (q ⊗ whole (pos q.den)) (whole q.num) (⊗-den q)

pub number_of-parts : (q : Fraction) → number_of q ≡ of_ℤ q.num /ℚ of_ℤ (pos q.den)
number_of-parts q =
    sym (*ℚ-/ℚ (number_of q) (of_ℤ (pos q.den)) (positive_not_zero q.den q.positive)) ∙ ap (λ t. t /ℚ of_ℤ (pos q.den)) (number_of-den q)
