-- Rounded numbers are monotone: where both ends of an interval have the same, so has all between them.
use Rattle.std.specs.Prelude.{◌≡◌, ℕ, zero, suc, ◌+◌, ◌-◌, ◌*◌, ◌≤◌, ◌<◌, [], ◌∷◌, ℤ, pos, negsuc, ◌+ℤ◌, ◌≤ℤ◌, ◌⊎◌, neg_ℤ, refl}
use Rattle.std.proofs.Common.{sym, ◌∙◌, ap, subst, arith, inl, inr, mul-le-mul}
use Rattle.std.proofs.lemmas.Int.{ints}
use Rattle.std.proofs.lemmas.Bool.Decides.{nat_tests}
use Rattle.std.proofs.lemmas.Bool.{cases_order}
use std.Quotient.{/_rec, /_rec₂}
use Rattle.exact_fraction.specs.Fraction.{◌⊗◌, inverse}
use Rattle.exact_fraction.specs.Number.{ℚ, of_ℤ, ◌+ℚ◌, ◌*ℚ◌, ◌/ℚ◌, inv_ℚ, is_zero_ℚ, ◌≤ℚ◌, floor_ℚ}
use Rattle.exact_fraction.specs.NumberLaws.{≤ℚ_same, ≤ℚ_trans, *ℚ-≤ℚ, +ℚ-≤ℚ, *ℚ-inv, of_ℤ-≤ℚ, ≤floor_ℚ}
use Rattle.exact_fraction.specs.Whole.{le_both}
use Rattle.exact_fraction.proofs.OrderLaws.{≤ℚ_left, ≤ℚ_right, ≤ℚ_by, *ℚ-not_negative, square-not_negative, floor_ℚ-not_above}
use Rattle.exact_fraction.proofs.Ring.{Whole, ◌:+◌, ◌:*◌, x0, x1, x2, ring}
use Rattle.exact_fraction.specs.Powers.{power}
use Rattle.exact_law.specs.Rounding.{ten_to, at_place, least_root, scaled_square, IsTwoDigits, IsHundredths}
use Rattle.exact_fraction.proofs.Strict.{below_not, ≤ℚ-<ℚ}
use Rattle.exact_fraction.proofs.Signs.{whole-not_negative, inv-not_negative, times-≤ℚ}

-- ---- powers of ten
power-not_negative : (x : ℚ) (n : ℕ) → of_ℤ (pos 0) ≤ℚ x → of_ℤ (pos 0) ≤ℚ power x n
unfolding power
power-not_negative x zero h = whole-not_negative 1
power-not_negative x (suc n) h = *ℚ-not_negative _ _ (power-not_negative x n h) h

pub ten_to-not_negative : (e : ℤ) → of_ℤ (pos 0) ≤ℚ ten_to e
unfolding ten_to
ten_to-not_negative (pos n) = power-not_negative (of_ℤ (pos 10)) n (whole-not_negative 10)
ten_to-not_negative (negsuc n) = power-not_negative _ (suc n) (inv-not_negative _ (whole-not_negative 10))

-- ---- whole parts
pub floor-rises : (x y : ℚ) → x ≤ℚ y → floor_ℚ x ≤ℤ floor_ℚ y
floor-rises x y h = ≤floor_ℚ (floor_ℚ x) y (≤ℚ_trans _ x y (floor_ℚ-not_above x) h)

le_along : (a b c : ℤ) → a ≡ c → a ≤ℤ b → c ≤ℤ b
le_along a b c e h = subst (λ t. t ≤ℤ b) e h

le_to : (a b c : ℤ) → b ≡ c → a ≤ℤ b → a ≤ℤ c
le_to a b c e h = subst (λ t. a ≤ℤ t) e h

pub floor-between : (x z y : ℚ) (c : ℤ) → x ≤ℚ z → z ≤ℚ y → floor_ℚ x ≡ c → floor_ℚ y ≡ c → floor_ℚ z ≡ c
floor-between x z y c h k e f =
    le_both (floor_ℚ z) c (le_to _ _ _ f (floor-rises z y k)) (le_along _ _ _ e (floor-rises x z h))

scaled-rises : (x y : ℚ) (e : ℤ) → x ≤ℚ y
    → x /ℚ ten_to e +ℚ of_ℤ (pos 1) /ℚ of_ℤ (pos 2) ≤ℚ y /ℚ ten_to e +ℚ of_ℤ (pos 1) /ℚ of_ℤ (pos 2)
scaled-rises x y e h = +ℚ-≤ℚ _ _ _ (*ℚ-≤ℚ x y (inv_ℚ (ten_to e)) (inv-not_negative _ (ten_to-not_negative e)) h)

pub at_place-between : (x z y : ℚ) (e c : ℤ) → x ≤ℚ z → z ≤ℚ y → at_place x e ≡ c → at_place y e ≡ c → at_place z e ≡ c
unfolding at_place
at_place-between x z y e c h k = floor-between _ _ _ c (scaled-rises x z e h) (scaled-rises z y e k)

-- ---- two digits
pub two_digits-between : (x z y : ℚ) (m : ℕ) (e : ℤ) → x ≤ℚ z → z ≤ℚ y → IsTwoDigits x m e → IsTwoDigits y m e → IsTwoDigits z m e
two_digits-between x z y m e h k d f = record {
  at_least_10 = d.at_least_10;
  at_most_99 = d.at_most_99;
  low = ≤ℚ_trans _ _ _ d.low (times-≤ℚ 400 x z h);
  high = ≤ℚ-<ℚ _ _ _ (times-≤ℚ 400 z y k) f.high;
}

squares-rise : (r s : ℕ) → r ≤ s → r * r ≤ s * s
squares-rise r s h = mul-le-mul h h

pub scaled_square-rises : (r s : ℕ) (e : ℤ) → r ≤ s → scaled_square r e ≤ℚ scaled_square s e
unfolding scaled_square
scaled_square-rises r s e h =
    *ℚ-≤ℚ _ _ (ten_to e *ℚ ten_to e) (square-not_negative (ten_to e))
    (of_ℤ-≤ℚ (pos (r * r)) (pos (s * s)) (let g = squares-rise r s h in omega (arith, ints)))

ten_inverse : of_ℤ (pos 10) *ℚ inv_ℚ (of_ℤ (pos 10)) ≡ of_ℤ (pos 1)
unfolding ◌*ℚ◌ inv_ℚ is_zero_ℚ /_rec /_rec₂ ◌⊗◌ inverse
ten_inverse = *ℚ-inv (of_ℤ (pos 10)) refl

times_ten : (x : ℚ) → (x *ℚ inv_ℚ (of_ℤ (pos 10))) *ℚ of_ℤ (pos 10) ≡ x
times_ten x =
    ring (x ∷ of_ℤ (pos 10) ∷ inv_ℚ (of_ℤ (pos 10)) ∷ []) (x0 :* x2 :* x1) (x0 :* (x1 :* x2)) refl
    ∙ ap (λ t. x *ℚ t) ten_inverse ∙ ring (x ∷ []) (x0 :* Whole (pos 1)) x0 refl

next_negative : (n : ℕ) → (negsuc (suc n) +ℤ pos 1) ≡ negsuc n
next_negative n = omega (arith, ints)

pub ten_to-next : (e : ℤ) → ten_to (e +ℤ pos 1) ≡ ten_to e *ℚ of_ℤ (pos 10)
unfolding ten_to power
ten_to-next (pos n) = let e : n + 1 ≡ suc n = omega arith in ap (power (of_ℤ (pos 10))) e
ten_to-next (negsuc zero) = sym (times_ten (of_ℤ (pos 1)))
ten_to-next (negsuc (suc n)) = ap ten_to (next_negative n) ∙ sym (times_ten (power (inv_ℚ (of_ℤ (pos 10))) (suc n)))

-- a square of the next place
pub next_square : (r : ℕ) (e : ℤ) → scaled_square r (e +ℤ pos 1) ≡ of_ℤ (pos 100) *ℚ scaled_square r e
unfolding scaled_square
next_square r e =
    ap (λ t. of_ℤ (pos (r * r)) *ℚ (t *ℚ t)) (ten_to-next e)
    ∙ ring (of_ℤ (pos (r * r)) ∷ ten_to e ∷ []) (x0 :* ((x1 :* Whole (pos 10)) :* (x1 :* Whole (pos 10)))) (Whole (pos 100) :* (x0 :* (x1 :* x1))) refl

pub ten_times : (e : ℤ) → scaled_square 199 (e +ℤ pos 1) ≡ scaled_square 1990 e
unfolding scaled_square
ten_times e =
    ap (λ t. of_ℤ (pos (199 * 199)) *ℚ (t *ℚ t)) (ten_to-next e)
    ∙ ring (ten_to e ∷ []) (Whole (pos 39601) :* ((x0 :* Whole (pos 10)) :* (x0 :* Whole (pos 10)))) (Whole (pos 3960100) :* (x0 :* x0)) refl

pub scaled_square-not_negative : (r : ℕ) (e : ℤ) → of_ℤ (pos 0) ≤ℚ scaled_square r e
unfolding scaled_square
scaled_square-not_negative r e = *ℚ-not_negative _ _ (whole-not_negative (r * r)) (square-not_negative (ten_to e))

scaled_square-grows : (r : ℕ) (e : ℤ) (k : ℕ) → scaled_square r e ≤ℚ scaled_square r (e +ℤ pos k)
scaled_square-grows r e zero = ≤ℚ_same _ _ (ap (scaled_square r) (same_place e)) where
  same_place : (e : ℤ) → e ≡ (e +ℤ pos 0)
  same_place e = omega (arith, ints)
scaled_square-grows r e (suc k) =
    ≤ℚ_trans _ _ _ (scaled_square-grows r e k)
    (≤ℚ_right _ (of_ℤ (pos 100) *ℚ scaled_square r (e +ℤ pos k)) _
    (sym (next_square r (e +ℤ pos k)) ∙ ap (scaled_square r) (one_more e k))
    (≤ℚ_by _ _ (of_ℤ (pos 99) *ℚ scaled_square r (e +ℤ pos k))
    (ring (scaled_square r (e +ℤ pos k) ∷ []) (x0 :+ Whole (pos 99) :* x0) (Whole (pos 100) :* x0) refl)
    (*ℚ-not_negative _ _ (whole-not_negative 99) (scaled_square-not_negative r (e +ℤ pos k))))) where
      one_more : (e : ℤ) (k : ℕ) → ((e +ℤ pos k) +ℤ pos 1) ≡ (e +ℤ pos (suc k))
      one_more e k = omega (arith, ints)

least_root-low : (m : ℕ) → 10 ≤ m → 199 ≤ least_root m
least_root-low m h = grind (arith, nat_tests)

least_root-next : (m n : ℕ) → 10 ≤ m → m < n → 20 * m + 10 ≤ least_root n
least_root-next m n h k = grind (arith, nat_tests)

-- a number has two digits at one place alone
apart : (v : ℚ) (m n : ℕ) (e f : ℤ) → IsTwoDigits v m e → IsTwoDigits v n f → (k : ℕ) → f ≡ ((e +ℤ pos 1) +ℤ pos k) → ⊥
apart v m n e f d g k h =
    below_not _ _ d.high
    (≤ℚ_trans _ (scaled_square 1990 e) _ (scaled_square-rises (20 * m + 10) 1990 e (let b = d.at_most_99 in omega arith))
    (≤ℚ_left _ _ _ (sym (ten_times e))
    (≤ℚ_trans _ (scaled_square 199 f) _
    (≤ℚ_right _ _ _ (ap (scaled_square 199) (sym h)) (scaled_square-grows 199 (e +ℤ pos 1) k))
    (≤ℚ_trans _ (scaled_square (least_root n) f) _ (scaled_square-rises 199 (least_root n) f (least_root-low n g.at_least_10)) g.low))))

-- and one pair of digits there
different : (v : ℚ) (m n : ℕ) (e : ℤ) → IsTwoDigits v m e → IsTwoDigits v n e → m < n → ⊥
different v m n e d g h =
    below_not _ _ d.high
    (≤ℚ_trans _ (scaled_square (least_root n) e) _
    (scaled_square-rises (20 * m + 10) (least_root n) e (least_root-next m n d.at_least_10 h)) g.low)

gap : (e f : ℤ) → ((k : ℕ) × (f ≡ ((e +ℤ pos 1) +ℤ pos k))) ⊎ (f ≤ℤ e)
gap e f = by (f +ℤ neg_ℤ (e +ℤ pos 1)) refl where
  by : (z : ℤ) → (f +ℤ neg_ℤ (e +ℤ pos 1)) ≡ z → ((k : ℕ) × (f ≡ ((e +ℤ pos 1) +ℤ pos k))) ⊎ (f ≤ℤ e)
  by (pos k) h = inl (k, omega (arith, ints))
  by (negsuc k) h = inr (omega (arith, ints))

same_digits : (v : ℚ) (m n : ℕ) (e : ℤ) → IsTwoDigits v m e → IsTwoDigits v n e → m ≡ n
same_digits v m n e d g = by (cases_order m n) where
  by : (m ≡ n) ⊎ ((m < n) ⊎ (n < m)) → m ≡ n
  by (inl h) = h
  by (inr (inl h)) = absurd (different v m n e d g h)
  by (inr (inr h)) = absurd (different v n m e g d h)

pub two_digits-unique : (v : ℚ) (m n : ℕ) (e f : ℤ) → IsTwoDigits v m e → IsTwoDigits v n f → (m ≡ n) × (e ≡ f)
two_digits-unique v m n e f d g = by (gap e f) (gap f e) where
  at : e ≡ f → (m ≡ n) × (e ≡ f)
  at h = (same_digits v m n f (subst (λ t. IsTwoDigits v m t) h d) g, h)

  by : ((k : ℕ) × (f ≡ ((e +ℤ pos 1) +ℤ pos k))) ⊎ (f ≤ℤ e) → ((k : ℕ) × (e ≡ ((f +ℤ pos 1) +ℤ pos k))) ⊎ (e ≤ℤ f)
      → (m ≡ n) × (e ≡ f)
  by (inl h) k = absurd (apart v m n e f d g h.0 h.1)
  by (inr h) (inl k) = absurd (apart v n m f e g d k.0 k.1)
  by (inr h) (inr k) = at (le_both e f k h)

-- ---- hundredths
pub hundredths-between : (x z y : ℚ) (m : ℕ) → x ≤ℚ z → z ≤ℚ y → IsHundredths x m → IsHundredths y m → IsHundredths z m
hundredths-between x z y m h k d f = record {
  low = ≤ℚ_trans _ _ _ d.low (times-≤ℚ 40000 x z h);
  high = ≤ℚ-<ℚ _ _ _ (times-≤ℚ 40000 z y k) f.high;
}

whole_squares-rise : (r s : ℕ) → r ≤ s → of_ℤ (pos (r * r)) ≤ℚ of_ℤ (pos (s * s))
whole_squares-rise r s h = of_ℤ-≤ℚ (pos (r * r)) (pos (s * s)) (let g = squares-rise r s h in omega (arith, ints))

hundredths-different : (f : ℚ) (m n : ℕ) → IsHundredths f m → IsHundredths f n → m < n → ⊥
hundredths-different f m n d g h =
    below_not _ _ d.high (≤ℚ_trans _ _ _ (whole_squares-rise (2 * m + 1) (2 * n - 1) (omega arith)) g.low)

pub hundredths-unique : (f : ℚ) (m n : ℕ) → IsHundredths f m → IsHundredths f n → m ≡ n
hundredths-unique f m n d g = by (cases_order m n) where
  by : (m ≡ n) ⊎ ((m < n) ⊎ (n < m)) → m ≡ n
  by (inl h) = h
  by (inr (inl h)) = absurd (hundredths-different f m n d g h)
  by (inr (inr h)) = absurd (hundredths-different f n m g d h)
