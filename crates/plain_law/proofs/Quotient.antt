-- Quotients of whole numbers: a common divisor, sums, products, inverses and signs.
use Rattle.std.specs.Prelude.{◌≡◌, ℕ, zero, suc, ◌*◌, ◌/◌, ◌<◌, Bool, true, false, not, ◌||◌, nat_eq, ℤ, pos, ◌+ℤ◌, ◌*ℤ◌, ◌≤ℤ◌, neg_ℤ, refl, [], ◌∷◌}
use Rattle.std.proofs.Common.{sym, ◌∙◌, ap, ap₂, arith}
use Rattle.std.proofs.lemmas.Int.{ints}
use Rattle.std.proofs.lemmas.Bool.{true≢false}
use Rattle.std.specs.Cmp.{both_ways}
use Rattle.std.proofs.Math.Nat.{div-mul_cancel}
use std.Quotient.{eq/, /_rec}
use Prim.Native.Nat.{◌∣◌}
use Rattle.std.proofs.Math.Dec.{eqb-suc-zero}
use Rattle.exact_fraction.specs.Fraction.{Fraction, whole, inverse}
use Rattle.exact_fraction.specs.Whole.{diff_same, push}
use Rattle.exact_fraction.specs.Number.{ℚ, number_of, of_ℤ, ◌+ℚ◌, ◌*ℚ◌, ◌/ℚ◌, neg_ℚ, inv_ℚ, is_zero_ℚ, is_at_most_ℚ, ◌-ℚ◌}
use Rattle.exact_fraction.specs.NumberLaws.{of_ℤ-+, of_ℤ-*, of_ℤ-neg, ≤ℚ-of_≼, ≼-of_≤ℚ}
use Rattle.exact_fraction.proofs.OrderLaws.{≤ℚ-difference, ≤ℚ-of_difference}
use Rattle.exact_fraction.proofs.Quotients.{positive_not_zero, /ℚ-*ℚ, ≡-/ℚ, number_of-parts}
use Rattle.exact_fraction.proofs.Signs.{of_pos-*}
use Rattle.exact_fraction.proofs.Ring.{Whole, ◌:+◌, ◌:*◌, Minus, x0, x1, x2, x3, x4, ring}
use Rattle.plain_law.specs.Numbers.{signed, differ}

-- ---- divisors
positive_factor : (a g d : ℕ) → a * g ≡ d → 0 < d → 0 < g
positive_factor a zero d e h = omega (arith, e)
positive_factor a (suc g) d e h = omega arith

pub positive_divisor : (g d : ℕ) → g ∣ d → 0 < d → 0 < g
positive_divisor g d h d0 = positive_factor (d / g) g d (div-mul_cancel g h) d0

left_factor : (a g d : ℕ) → a * g ≡ d → 0 < d → 0 < a
left_factor zero g d e h = omega (arith, e)
left_factor (suc a) g d e h = omega arith

pub positive_part : (g d : ℕ) → g ∣ d → 0 < d → 0 < d / g
positive_part g d h d0 = left_factor (d / g) g d (div-mul_cancel g h) d0

-- ---- quotients
pub quotient_by : (q x y : ℚ) → is_zero_ℚ y ≡ false → q *ℚ y ≡ x → q ≡ x /ℚ y
quotient_by q x y n h = (≡-/ℚ q x y n).1 h

signed-* : (s : Bool) (a g : ℕ) → signed s (a * g) ≡ (signed s a *ℤ pos g)
signed-* false a g = refl
signed-* true a g = simp push (diff_same _ _ _ _ (omega arith))

signed-*ℚ : (s : Bool) (a g : ℕ) → of_ℤ (signed s (a * g)) ≡ of_ℤ (signed s a) *ℚ of_ℤ (pos g)
signed-*ℚ s a g = ap of_ℤ (signed-* s a g) ∙ of_ℤ-* (signed s a) (pos g)

scaled : (a b g : ℚ) → is_zero_ℚ b ≡ false → (a /ℚ b) *ℚ (b *ℚ g) ≡ a *ℚ g
scaled a b g n = ring ((a /ℚ b) ∷ b ∷ g ∷ []) (x0 :* (x1 :* x2)) ((x0 :* x1) :* x2) refl ∙ ap (λ t. t *ℚ g) (/ℚ-*ℚ a b n)

-- a common divisor of the two numbers changes nothing
lowest_by : (s : Bool) (n d a b g : ℕ) → 0 < d → 0 < b → a * g ≡ n → b * g ≡ d
    → of_ℤ (signed s a) /ℚ of_ℤ (pos b) ≡ of_ℤ (signed s n) /ℚ of_ℤ (pos d)
lowest_by s n d a b g d0 b0 e f =
    quotient_by (of_ℤ (signed s a) /ℚ of_ℤ (pos b)) (of_ℤ (signed s n)) (of_ℤ (pos d)) (positive_not_zero d d0)
    (ap (λ t. (of_ℤ (signed s a) /ℚ of_ℤ (pos b)) *ℚ of_ℤ (pos t)) (sym f)
    ∙ ap (λ t. (of_ℤ (signed s a) /ℚ of_ℤ (pos b)) *ℚ t) (of_pos-* b g)
    ∙ scaled (of_ℤ (signed s a)) (of_ℤ (pos b)) (of_ℤ (pos g)) (positive_not_zero b b0)
    ∙ sym (signed-*ℚ s a g) ∙ ap (λ t. of_ℤ (signed s t)) e)

pub lowest : (s : Bool) (n d g : ℕ) → 0 < d → g ∣ n → g ∣ d
    → of_ℤ (signed s (n / g)) /ℚ of_ℤ (pos (d / g)) ≡ of_ℤ (signed s n) /ℚ of_ℤ (pos d)
lowest s n d g d0 h k =
    lowest_by s n d (n / g) (d / g) g d0 (positive_part g d k d0) (div-mul_cancel g h) (div-mul_cancel g k)

-- a whole number is itself divided by 1
pub whole_by : (z : ℤ) (s : Bool) (n : ℕ) → z ≡ signed s n → of_ℤ (signed s n) /ℚ of_ℤ (pos 1) ≡ of_ℤ z
whole_by z s n e =
    sym (quotient_by (of_ℤ z) (of_ℤ (signed s n)) (of_ℤ (pos 1)) (positive_not_zero 1 (omega arith))
    (ring (of_ℤ z ∷ []) (x0 :* Whole (pos 1)) x0 refl ∙ ap of_ℤ e))

-- ---- sums
sum_of : (x y a b d p q g : ℚ) → x *ℚ (p *ℚ g) ≡ a → y *ℚ (q *ℚ g) ≡ b → d ≡ p *ℚ g
    → (x +ℚ y) *ℚ (d *ℚ q) ≡ (a *ℚ q) +ℚ (b *ℚ p)
sum_of x y a b d p q g e f h =
    ap (λ t. (x +ℚ y) *ℚ (t *ℚ q)) h
    ∙ ring (x ∷ y ∷ p ∷ q ∷ g ∷ []) ((x0 :+ x1) :* (x2 :* x4 :* x3)) ((x0 :* (x2 :* x4)) :* x3 :+ (x1 :* (x3 :* x4)) :* x2) refl
    ∙ ap₂ (λ t u. (t *ℚ q) +ℚ (u *ℚ p)) e f

-- the quotient, times the divisor in two factors
times_divisor : (z : ℤ) (d p g : ℕ) → 0 < d → p * g ≡ d
    → (of_ℤ z /ℚ of_ℤ (pos d)) *ℚ (of_ℤ (pos p) *ℚ of_ℤ (pos g)) ≡ of_ℤ z
times_divisor z d p g d0 e =
    ap (λ t. (of_ℤ z /ℚ of_ℤ (pos d)) *ℚ t) (sym (of_pos-* p g) ∙ ap (λ t. of_ℤ (pos t)) e)
    ∙ /ℚ-*ℚ (of_ℤ z) (of_ℤ (pos d)) (positive_not_zero d d0)

sum_by : (y z : ℤ) (d e p q g : ℕ) → 0 < d → 0 < e → 0 < d * q → p * g ≡ d → q * g ≡ e
    → of_ℤ ((y *ℤ pos q) +ℤ (z *ℤ pos p)) /ℚ of_ℤ (pos (d * q)) ≡ (of_ℤ y /ℚ of_ℤ (pos d)) +ℚ (of_ℤ z /ℚ of_ℤ (pos e))
sum_by y z d e p q g d0 e0 dq0 dp eq =
    sym (quotient_by ((of_ℤ y /ℚ of_ℤ (pos d)) +ℚ (of_ℤ z /ℚ of_ℤ (pos e))) (of_ℤ ((y *ℤ pos q) +ℤ (z *ℤ pos p))) (of_ℤ (pos (d * q)))
    (positive_not_zero (d * q) dq0)
    (ap (λ t. ((of_ℤ y /ℚ of_ℤ (pos d)) +ℚ (of_ℤ z /ℚ of_ℤ (pos e))) *ℚ t) (of_pos-* d q)
    ∙ sum_of (of_ℤ y /ℚ of_ℤ (pos d)) (of_ℤ z /ℚ of_ℤ (pos e)) (of_ℤ y) (of_ℤ z) (of_ℤ (pos d)) (of_ℤ (pos p)) (of_ℤ (pos q)) (of_ℤ (pos g))
    (times_divisor y d p g d0 dp) (times_divisor z e q g e0 eq) (sym (ap (λ t. of_ℤ (pos t)) dp) ∙ of_pos-* p g)
    ∙ sym (of_ℤ-+ (y *ℤ pos q) (z *ℤ pos p) ∙ ap₂ ◌+ℚ◌ (of_ℤ-* y (pos q)) (of_ℤ-* z (pos p)))))

-- the sum over the least common multiple of the divisors
pub sum : (s t : Bool) (m n d e g : ℕ) → 0 < d → 0 < e → 0 < d * (e / g) → g ∣ d → g ∣ e
    → of_ℤ (signed s (m * (e / g)) +ℤ signed t (n * (d / g))) /ℚ of_ℤ (pos (d * (e / g)))
    ≡ (of_ℤ (signed s m) /ℚ of_ℤ (pos d)) +ℚ (of_ℤ (signed t n) /ℚ of_ℤ (pos e))
sum s t m n d e g d0 e0 de0 h k =
    ap (λ v. of_ℤ v /ℚ of_ℤ (pos (d * (e / g)))) (ap₂ (λ v w. v +ℤ w) (signed-* s m (e / g)) (signed-* t n (d / g)))
    ∙ sum_by (signed s m) (signed t n) d e (d / g) (e / g) g d0 e0 de0 (div-mul_cancel g h) (div-mul_cancel g k)

-- ---- products
signed-differ : (s t : Bool) (m n : ℕ) → signed (differ s t) (m * n) ≡ (signed s m *ℤ signed t n)
signed-differ false false m n = refl
signed-differ false true m n = simp push (diff_same _ _ _ _ (omega arith))
signed-differ true false m n = simp push (diff_same _ _ _ _ (omega arith))
signed-differ true true m n = simp push (diff_same _ _ _ _ (omega arith))

product_of : (x y a b c d : ℚ) → x *ℚ b ≡ a → y *ℚ d ≡ c → (x *ℚ y) *ℚ (b *ℚ d) ≡ a *ℚ c
product_of x y a b c d e f =
    ring (x ∷ y ∷ b ∷ d ∷ []) ((x0 :* x1) :* (x2 :* x3)) ((x0 :* x2) :* (x1 :* x3)) refl ∙ ap₂ ◌*ℚ◌ e f

pub product : (s t : Bool) (m n d e : ℕ) → 0 < d → 0 < e → 0 < d * e
    → of_ℤ (signed (differ s t) (m * n)) /ℚ of_ℤ (pos (d * e))
    ≡ (of_ℤ (signed s m) /ℚ of_ℤ (pos d)) *ℚ (of_ℤ (signed t n) /ℚ of_ℤ (pos e))
product s t m n d e d0 e0 de0 =
    sym (quotient_by ((of_ℤ (signed s m) /ℚ of_ℤ (pos d)) *ℚ (of_ℤ (signed t n) /ℚ of_ℤ (pos e))) _ (of_ℤ (pos (d * e)))
    (positive_not_zero (d * e) de0)
    (ap (λ v. ((of_ℤ (signed s m) /ℚ of_ℤ (pos d)) *ℚ (of_ℤ (signed t n) /ℚ of_ℤ (pos e))) *ℚ v) (of_pos-* d e)
    ∙ product_of _ _ (of_ℤ (signed s m)) (of_ℤ (pos d)) (of_ℤ (signed t n)) (of_ℤ (pos e))
    (/ℚ-*ℚ (of_ℤ (signed s m)) (of_ℤ (pos d)) (positive_not_zero d d0)) (/ℚ-*ℚ (of_ℤ (signed t n)) (of_ℤ (pos e)) (positive_not_zero e e0))
    ∙ sym (ap of_ℤ (signed-differ s t m n) ∙ of_ℤ-* (signed s m) (signed t n))))

-- the two divisors may change places
pub crossed : (a b c d : ℚ) → (a /ℚ d) *ℚ (c /ℚ b) ≡ (a /ℚ b) *ℚ (c /ℚ d)
crossed a b c d =
    ring (a ∷ inv_ℚ b ∷ c ∷ inv_ℚ d ∷ []) ((x0 :* x3) :* (x2 :* x1)) ((x0 :* x1) :* (x2 :* x3)) refl

-- ---- negatives and inverses
signed-not : (s : Bool) (n : ℕ) → signed (not s) n ≡ neg_ℤ (signed s n)
signed-not false n = refl
signed-not true n = omega (arith, ints)

pub negative : (s : Bool) (n d : ℕ) → of_ℤ (signed (not s) n) /ℚ of_ℤ (pos d) ≡ neg_ℚ (of_ℤ (signed s n) /ℚ of_ℤ (pos d))
negative s n d =
    ap (λ t. of_ℤ t /ℚ of_ℤ (pos d)) (signed-not s n) ∙ ap (λ t. t /ℚ of_ℤ (pos d)) (of_ℤ-neg (signed s n))
    ∙ ring (of_ℤ (signed s n) ∷ inv_ℚ (of_ℤ (pos d)) ∷ []) (Minus x0 :* x1) (Minus (x0 :* x1)) refl

abbrev pub part : ℤ → (d : ℕ) → 0 < d → Fraction
part z d h = record { num = z; den = d; positive = h }

inverse_fraction : (s : Bool) (n d : ℕ) (d0 : 0 < d) (n0 : 0 < n) → number_of (part (signed s d) n n0) ≡ inv_ℚ (number_of (part (signed s n) d d0))
unfolding inv_ℚ /_rec inverse
inverse_fraction s zero d d0 n0 = absurd (omega arith)
inverse_fraction false (suc n) d d0 n0 = eq/ (part (pos d) (suc n) n0) (inverse (part (pos (suc n)) d d0)) (record { same = refl })
inverse_fraction true (suc n) d d0 n0 = eq/ (part (neg_ℤ (pos d)) (suc n) n0) (inverse (part (neg_ℤ (pos (suc n))) d d0)) (record { same = refl })

pub inverted : (s : Bool) (n d : ℕ) → 0 < d → 0 < n
    → of_ℤ (signed s d) /ℚ of_ℤ (pos n) ≡ inv_ℚ (of_ℤ (signed s n) /ℚ of_ℤ (pos d))
inverted s n d d0 n0 =
    sym (number_of-parts (part (signed s d) n n0)) ∙ inverse_fraction s n d d0 n0
    ∙ ap inv_ℚ (number_of-parts (part (signed s n) d d0))

-- ---- tests
zero_fraction : (s : Bool) (n d : ℕ) (d0 : 0 < d) → nat_eq n 0 ≡ is_zero_ℚ (number_of (part (signed s n) d d0))
unfolding is_zero_ℚ /_rec
zero_fraction false zero d d0 = refl
zero_fraction true zero d d0 = refl
zero_fraction false (suc n) d d0 = eqb-suc-zero n
zero_fraction true (suc n) d d0 = eqb-suc-zero n

pub zero_test : (s : Bool) (n d : ℕ) → 0 < d → nat_eq n 0 ≡ is_zero_ℚ (of_ℤ (signed s n) /ℚ of_ℤ (pos d))
zero_test s n d d0 = zero_fraction s n d d0 ∙ ap is_zero_ℚ (number_of-parts (part (signed s n) d d0))

sign_order : (s : Bool) (n d : ℕ) → (not s || nat_eq n 0) ≡ true → (pos 0 *ℤ pos d) ≤ℤ (signed s n *ℤ pos 1)
sign_order false n d h = omega (arith, ints)
sign_order true zero d h = omega (arith, ints)
sign_order true (suc n) d h = absurd (true≢false (sym h ∙ eqb-suc-zero n))

order_sign : (s : Bool) (n d : ℕ) → (pos 0 *ℤ pos d) ≤ℤ (signed s n *ℤ pos 1) → (not s || nat_eq n 0) ≡ true
order_sign false n d h = refl
order_sign true zero d h = refl
order_sign true (suc n) d h = absurd (omega (arith, ints))

sign_fraction : (s : Bool) (n d : ℕ) (d0 : 0 < d)
    → (not s || nat_eq n 0) ≡ is_at_most_ℚ (of_ℤ (pos 0)) (number_of (part (signed s n) d d0))
sign_fraction s n d d0 =
    both_ways (not s || nat_eq n 0) (is_at_most_ℚ (of_ℤ (pos 0)) (number_of (part (signed s n) d d0)))
    (λ h. (≤ℚ-of_≼ (whole (pos 0)) (part (signed s n) d d0) (record { at_most = sign_order s n d h })).holds)
    (λ h. order_sign s n d (≼-of_≤ℚ (whole (pos 0)) (part (signed s n) d d0) (record { holds = h })).at_most)

pub sign_test : (s : Bool) (n d : ℕ) → 0 < d
    → (not s || nat_eq n 0) ≡ is_at_most_ℚ (of_ℤ (pos 0)) (of_ℤ (signed s n) /ℚ of_ℤ (pos d))
sign_test s n d d0 =
    sign_fraction s n d d0 ∙ ap (is_at_most_ℚ (of_ℤ (pos 0))) (number_of-parts (part (signed s n) d d0))

-- the order by the sign of the difference
pub by_difference : (x y : ℚ) → is_at_most_ℚ (of_ℤ (pos 0)) (y -ℚ x) ≡ is_at_most_ℚ x y
by_difference x y =
    both_ways _ _ (λ h. (≤ℚ-of_difference x y (record { holds = h })).holds) (λ h. (≤ℚ-difference x y (record { holds = h })).holds)
