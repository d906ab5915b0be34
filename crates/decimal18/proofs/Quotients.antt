-- Quotients: the digits of a long division are those of the exact quotient.
use Rattle.std.specs.Prelude.{◌≡◌, ◌≢◌, ◌⊎◌, ℕ, zero, suc, ◌+◌, ◌-◌, ◌*◌, ◌/◌, ◌^◌, ◌<◌, ◌≤◌, Bool, true, false, ℤ, pos, negsuc, ◌*ℤ◌, ◌≤ℤ◌, neg_ℤ, unsigned_abs, refl}
use Rattle.std.proofs.Common.{sym, ap, subst, ◌∙◌, arith, inl, inr}
use Rattle.std.proofs.Math.Nat.{mul-pos, one-le-pow, mul-le-mul_right, mul-lt-mul_of_pos_right, div-mul-le_self, lt-div-mul-add, le-div_iff_mul-le}
use Rattle.std.proofs.Math.Dec.{lit≤}
use Rattle.std.proofs.Math.Pow.{pow-add}
use Rattle.std.proofs.lemmas.Bool.{cases_lt}
use Rattle.std.proofs.lemmas.Int.{ints}
use lib.Signed.{≤ℤ_refl}
use std.Quotient.{cls, eq/, /_rec, /_rec₂}
use Rattle.exact_fraction.specs.Whole.{diff_same, push, le_both}
use Rattle.exact_fraction.specs.Fraction as fraction
use Rattle.exact_fraction.specs.Fraction.{Fraction, ◌⊗◌, inverse}
use Rattle.exact_fraction.specs.Number.{ℚ, number_of, of_ℤ, ◌≤ℚ◌, ◌*ℚ◌, ◌/ℚ◌, inv_ℚ, neg_ℚ}
use Rattle.exact_fraction.specs.NumberLaws.{≈-of_≡, ≤ℚ-of_≼, ≼-of_≤ℚ, ≤ℤ-of_≤ℚ, ≤ℚ_trans}
use Rattle.decimal18.specs.Bound.{Bound, scaled, fraction_of, value_of}
use Rattle.decimal18.specs.Down.{IsInRange, floor_at}
use Rattle.decimal18.specs.Digits.{signed, signed_ℚ, differ, IsCutOff, IsPart}
use Rattle.decimal18.proofs.Values.{under_floor, under_value}
use Rattle.decimal18.proofs.Counting.{powers_rise}
use Rattle.decimal18.proofs.CutOff.{below_quotient, pos_same, le_pos}

-- m * 10 ^ u divided by n * 10 ^ v
pub ratio_of : (m n u v : ℕ) → 0 < n → Fraction
ratio_of m n u v n0 = record { num = pos (m * 10 ^ u); den = n * 10 ^ v; positive = mul-pos n0 (one-le-pow v 10 (lit≤ tt)) }

-- at s places, where k zeros were put after m
crossed : (m n u v s k d r : ℕ) → s + u ≡ k + v → m * 10 ^ k ≡ d * n + r → (m * 10 ^ u) * 10 ^ s ≡ d * (n * 10 ^ v) + r * 10 ^ v
crossed m n u v s k d r e f =
    regroup m (10 ^ u) (10 ^ s) ∙ ap (λ t. m * t) (sym (pow-add 10 u s) ∙ ap (λ t. 10 ^ t) (turned u s k v e) ∙ pow-add 10 k v)
    ∙ sym (regroup m (10 ^ k) (10 ^ v)) ∙ ap (λ t. t * 10 ^ v) f ∙ spread d n r (10 ^ v) where
      regroup : (a b c : ℕ) → (a * b) * c ≡ a * (b * c)
      regroup a b c = omega arith

      turned : (u s k v : ℕ) → s + u ≡ k + v → u + s ≡ k + v
      turned u s k v e = omega arith

      spread : (d n r t : ℕ) → (d * n + r) * t ≡ d * (n * t) + r * t
      spread d n r t = omega arith

pub quotient_cut : (m n u v s k d : ℕ) (n0 : 0 < n) (lost : Bool) → s + u ≡ k + v → IsPart (m * 10 ^ k) n d lost
    → IsCutOff (cls (ratio_of m n u v n0)) d s lost
unfolding value_of ratio_of
quotient_cut m n u v s k d n0 lost e h = record {
  first = le_both _ _ high low;
  all = (λ f. all (h.all.0 f), λ f. h.all.1 (none f));
} where
  x : ℚ
  x = cls (ratio_of m n u v n0)

  cross : (m * 10 ^ u) * 10 ^ s ≡ d * (n * 10 ^ v) + h.rest * 10 ^ v
  cross = crossed m n u v s k d h.rest e h.split

  low : pos d ≤ℤ floor_at x s
  low = under_floor (pos d) s x (≤ℚ-of_≼ (fraction_of (scaled (pos d) s)) (ratio_of m n u v n0)
      (record { at_most = le_pos (below (d * (n * 10 ^ v)) ((m * 10 ^ u) * 10 ^ s) (h.rest * 10 ^ v) cross) })) where
        below : (a b c : ℕ) → b ≡ a + c → a ≤ b
        below a b c e = omega arith

  high : floor_at x s ≤ℤ pos d
  high =
      let z = floor_at x s in
      let g = (≼-of_≤ℚ (fraction_of (scaled z s)) (ratio_of m n u v n0) (under_value z s x (≤ℤ_refl z))).at_most in
      below_quotient z ((m * 10 ^ u) * 10 ^ s) d (n * 10 ^ v) (h.rest * 10 ^ v) g cross
      (mul-lt-mul_of_pos_right {m = h.rest} {n = n} {k = 10 ^ v} h.below (one-le-pow v 10 (lit≤ tt)))

  all : h.rest ≡ 0 → x ≡ value_of (scaled (pos d) s)
  all z = eq/ (ratio_of m n u v n0) (fraction_of (scaled (pos d) s))
      (record { same = ap pos (cross ∙ ap (λ r. d * (n * 10 ^ v) + r * 10 ^ v) z ∙ plain (d * (n * 10 ^ v)) (10 ^ v)) }) where
        plain : (a t : ℕ) → a + 0 * t ≡ a
        plain a t = omega arith

  none : x ≡ value_of (scaled (pos d) s) → h.rest ≡ 0
  none f =
      let g : (m * 10 ^ u) * 10 ^ s ≡ d * (n * 10 ^ v) = pos_same (≈-of_≡ (ratio_of m n u v n0) (fraction_of (scaled (pos d) s)) f).same in
      no_rest (d * (n * 10 ^ v)) h.rest (10 ^ v) (one-le-pow v 10 (lit≤ tt)) (sym g ∙ cross) where
        no_rest : (a r t : ℕ) → 0 < t → a ≡ a + r * t → r ≡ 0
        no_rest a zero t t0 e = refl
        no_rest a (suc r) t t0 e = absurd (omega arith)

-- eighteen digits and more zeros before the point are out of range
pub quotient_large : (m n u v k d : ℕ) (n0 : 0 < n) (lost : Bool) → k + v < u → IsPart (m * 10 ^ k) n d lost → 10 ^ 17 ≤ d
    → IsInRange (cls (ratio_of m n u v n0)) → ⊥
unfolding ratio_of
quotient_large m n u v k d n0 lost h part enough range =
    let t = u - (k + v + 1) in
    let split : u ≡ (k + v) + (1 + t) = omega arith in
    let a : 10 ^ u ≡ 10 ^ k * 10 ^ v * (10 * 10 ^ t) =
    ap (λ i. 10 ^ i) split ∙ pow-add 10 (k + v) (1 + t) ∙ ap (λ i. i * 10 ^ (1 + t)) (pow-add 10 k v) ∙ ap (λ i. (10 ^ k * 10 ^ v) * i) (pow-add 10 1 t) in
    let f : 10 ^ 18 * (n * 10 ^ v) ≤ m * 10 ^ u =
    large m n d part.rest (10 ^ k) (10 ^ v) (10 ^ t) (10 ^ u) a part.split enough (one-le-pow t 10 (lit≤ tt)) in
    let g : of_ℤ (pos (10 ^ 18)) ≤ℚ cls (ratio_of m n u v n0) =
    ≤ℚ-of_≼ (fraction.whole (pos (10 ^ 18))) (ratio_of m n u v n0) (record { at_most = le_pos (subst (λ i. 10 ^ 18 * (n * 10 ^ v) ≤ i) (sym (times_one (m * 10 ^ u))) f) }) in
    let i = ≤ℤ-of_≤ℚ _ _ (≤ℚ_trans _ _ _ g range.high) in
    omega (arith, ints) where
      times_one : (a : ℕ) → a * 1 ≡ a
      times_one a = omega arith

      regroup : (m a b t : ℕ) → m * (a * b * (10 * t)) ≡ (m * a) * (b * (10 * t))
      regroup m a b t = omega arith

      large : (m n d r a b t w : ℕ) → w ≡ a * b * (10 * t) → m * a ≡ d * n + r → 10 ^ 17 ≤ d → 0 < t → 10 ^ 18 * (n * b) ≤ m * w
      large m n d r a b t w e f g t0 =
          let i : 10 ^ 17 * (n * b) ≤ d * (n * b) = mul-le-mul_right (n * b) g in
          let j : m * w ≡ (d * n + r) * (b * (10 * t)) = ap (λ x. m * x) e ∙ regroup m a b t ∙ ap (λ x. x * (b * (10 * t))) f in
          let k : 1 * (d * (n * b)) ≤ t * (d * (n * b)) = mul-le-mul_right (d * (n * b)) t0 in
          omega arith

-- ---- the values
both_negative : (m a b n : ℕ) → (pos (m * a) *ℤ pos (b * n)) ≡ ((neg_ℤ (pos m) *ℤ neg_ℤ (pos a)) *ℤ pos (n * b))
both_negative m a b n = simp push (diff_same _ _ _ _ (omega arith))

first_negative : (m a b n : ℕ) → (neg_ℤ (pos (m * a)) *ℤ pos (b * n)) ≡ ((neg_ℤ (pos m) *ℤ pos a) *ℤ pos (n * b))
first_negative m a b n = simp push (diff_same _ _ _ _ (omega arith))

second_negative : (m a b n : ℕ) → (neg_ℤ (pos (m * a)) *ℤ pos (b * n)) ≡ ((pos m *ℤ neg_ℤ (pos a)) *ℤ pos (n * b))
second_negative m a b n = simp push (diff_same _ _ _ _ (omega arith))

none_negative : (m a b n : ℕ) → (pos (m * a) *ℤ pos (b * n)) ≡ ((pos m *ℤ pos a) *ℤ pos (n * b))
none_negative m a b n = simp push (diff_same _ _ _ _ (omega arith))

quotient_signed : (na nb : Bool) (m n p q : ℕ) (n0 : 0 < suc n) → signed_ℚ (differ na nb) (cls (ratio_of m (suc n) q p n0))
    ≡ number_of (fraction_of (scaled (signed na m) p) ⊗ inverse (fraction_of (scaled (signed nb (suc n)) q)))
unfolding ratio_of neg_ℚ /_rec fraction.negated ◌⊗◌ inverse
quotient_signed true true m n p q n0 = eq/ (ratio_of m (suc n) q p n0) (fraction_of (scaled (signed true m) p) ⊗ inverse (fraction_of (scaled (signed true (suc n)) q)))
    (record { same = both_negative m (10 ^ q) (10 ^ p) (suc n) })
quotient_signed true false m n p q n0 = eq/ (fraction.negated (ratio_of m (suc n) q p n0)) (fraction_of (scaled (signed true m) p) ⊗ inverse (fraction_of (scaled (signed false (suc n)) q)))
    (record { same = first_negative m (10 ^ q) (10 ^ p) (suc n) })
quotient_signed false true m n p q n0 = eq/ (fraction.negated (ratio_of m (suc n) q p n0)) (fraction_of (scaled (signed false m) p) ⊗ inverse (fraction_of (scaled (signed true (suc n)) q)))
    (record { same = second_negative m (10 ^ q) (10 ^ p) (suc n) })
quotient_signed false false m n p q n0 = eq/ (ratio_of m (suc n) q p n0) (fraction_of (scaled (signed false m) p) ⊗ inverse (fraction_of (scaled (signed false (suc n)) q)))
    (record { same = none_negative m (10 ^ q) (10 ^ p) (suc n) })

by_inverse : (a b : Bound) → number_of (fraction_of a ⊗ inverse (fraction_of b)) ≡ value_of a /ℚ value_of b
unfolding value_of ◌*ℚ◌ inv_ℚ /_rec₂ /_rec
by_inverse a b = refl

pub quotient_is : (c d : ℤ) (na nb : Bool) (m n p q : ℕ) (n0 : 0 < n) → c ≡ signed na m → d ≡ signed nb n
    → signed_ℚ (differ na nb) (cls (ratio_of m n q p n0)) ≡ value_of (scaled c p) /ℚ value_of (scaled d q)
quotient_is c d na nb m zero p q n0 ec ed = absurd (omega arith)
quotient_is c d na nb m (suc n) p q n0 ec ed =
    quotient_signed na nb m n p q n0 ∙ by_inverse (scaled (signed na m) p) (scaled (signed nb (suc n)) q)
    ∙ ap (λ z. value_of (scaled z p) /ℚ value_of (scaled (signed nb (suc n)) q)) (sym ec)
    ∙ ap (λ z. value_of (scaled c p) /ℚ value_of (scaled z q)) (sym ed)

-- the same, at places that are known to be those
pub quotient_at : (c d : ℤ) (na nb : Bool) (m n p q pr qr : ℕ) (n0 : 0 < n) → c ≡ signed na m → d ≡ signed nb n → pr ≡ p → qr ≡ q
    → signed_ℚ (differ na nb) (cls (ratio_of m n qr pr n0)) ≡ value_of (scaled c p) /ℚ value_of (scaled d q)
quotient_at c d na nb m n p q pr qr n0 ec ed ep eq =
    ap (λ i. signed_ℚ (differ na nb) (cls (ratio_of m n qr i n0))) ep ∙ ap (λ i. signed_ℚ (differ na nb) (cls (ratio_of m n i p n0))) eq
    ∙ quotient_is c d na nb m n p q n0 ec ed

pub positive_size : (z : ℤ) (n : ℕ) → n ≡ unsigned_abs z → z ≢ pos 0 → 0 < n
positive_size (pos zero) n e h = absurd (h refl)
positive_size (pos (suc a)) n e h = omega arith
positive_size (negsuc a) n e h = omega arith

-- ---- ratios
ratio_positive : (m n k t : ℕ) → suc k ≡ t → (pos (m * 1) *ℤ pos (n * suc k)) ≡ ((pos m *ℤ pos 1) *ℤ pos (n * t))
ratio_positive m n k t e = ap (λ i. pos (m * 1) *ℤ pos (n * i)) e

ratio_negative : (m n k t : ℕ) → suc k ≡ t → (neg_ℤ (pos (m * 1)) *ℤ pos (n * suc k)) ≡ ((neg_ℤ (pos m) *ℤ pos 1) *ℤ pos (n * t))
ratio_negative m n k t e = ap (λ i. neg_ℤ (pos (m * 1)) *ℤ pos (n * i)) e ∙ (simp push (diff_same _ _ _ _ (omega arith)))

ratio_signed : (na : Bool) (m n k p : ℕ) (n0 n1 : 0 < n) → suc k ≡ 10 ^ p
    → signed_ℚ na (cls (ratio_of m n 0 p n0)) ≡ cls (record { num = signed na m; den = n; positive = n1 }) /ℚ of_ℤ (pos (suc k))
unfolding ratio_of neg_ℚ ◌*ℚ◌ inv_ℚ /_rec₂ /_rec fraction.negated ◌⊗◌ inverse
ratio_signed true m n k p n0 n1 e = eq/ (fraction.negated (ratio_of m n 0 p n0)) (record { num = signed true m; den = n; positive = n1 } ⊗ inverse (fraction.whole (pos (suc k))))
    (record { same = ratio_negative m n k (10 ^ p) e })
ratio_signed false m n k p n0 n1 e = eq/ (ratio_of m n 0 p n0) (record { num = signed false m; den = n; positive = n1 } ⊗ inverse (fraction.whole (pos (suc k))))
    (record { same = ratio_positive m n k (10 ^ p) e })

pub ratio_is : (c : ℤ) (na : Bool) (m n p t : ℕ) (n0 n1 : 0 < n) → c ≡ signed na m → t ≡ 10 ^ p
    → signed_ℚ na (cls (ratio_of m n 0 p n0)) ≡ cls (record { num = c; den = n; positive = n1 }) /ℚ of_ℤ (pos t)
ratio_is c na m n p zero n0 n1 ec et = let g = one-le-pow p 10 (lit≤ tt) in absurd (omega arith)
ratio_is c na m n p (suc k) n0 n1 ec et =
    ratio_signed na m n k p n0 n1 et ∙ ap (λ z. cls (record { num = z; den = n; positive = n1 }) /ℚ of_ℤ (pos (suc k))) (sym ec)

-- ---- the steps of the division
pub step_split : (s k d y r w e : ℕ) → s * 10 ^ k ≡ d * y + r → w ≡ r * 10 ^ 18 → e ≡ w / y
    → s * 10 ^ (k + 18) ≡ (d * 10 ^ 18 + e) * y + (w - e * y)
step_split s k d y r w e h ew ee =
    let f : e * y ≤ w = subst (λ i. i * y ≤ w) (sym ee) (div-mul-le_self w y) in
    ap (λ i. s * i) (pow-add 10 k 18) ∙ sym (regroup s (10 ^ k) (10 ^ 18)) ∙ ap (λ i. i * 10 ^ 18) h ∙ spread d y r (10 ^ 18) w e ew f where
      regroup : (a b c : ℕ) → (a * b) * c ≡ a * (b * c)
      regroup a b c = omega arith

      spread : (d y r t w e : ℕ) → w ≡ r * t → e * y ≤ w → (d * y + r) * t ≡ (d * t + e) * y + (w - e * y)
      spread d y r t w e ew f = omega arith

pub step_below : (y w e : ℕ) → 0 < y → e ≡ w / y → w - e * y < y
step_below y w e y0 ee =
    let f : w < w / y * y + y = lt-div-mul-add {a = w} {b = y} y0 in
    let g : w < e * y + y = subst (λ i. w < i * y + y) (sym ee) f in
    omega arith

-- the same, at a divisor that is known to be that
pub ratio_at : (c : ℤ) (na : Bool) (m n d p : ℕ) (n0 : 0 < n) (d0 : 0 < d) → c ≡ signed na m → n ≡ d
    → signed_ℚ na (cls (ratio_of m n 0 p n0)) ≡ cls (record { num = c; den = d; positive = d0 }) /ℚ of_ℤ (pos (10 ^ p))
ratio_at c na m n d p n0 d0 ec en =
    let P : ℕ → Type 0 = λ i. (i0 : 0 < i) → signed_ℚ na (cls (ratio_of m n 0 p n0)) ≡ cls (record { num = c; den = i; positive = i0 }) /ℚ of_ℤ (pos (10 ^ p)) in
    subst P en (λ i0. ratio_is c na m n p (10 ^ p) n0 i0 ec refl) d0

-- ---- one division
-- the exponent of the first digit of a number of 18 digits
pub exponent_below : (m i : ℕ) → 10 ^ i ≤ m → m < 10 ^ 18 → i < 18
exponent_below m i h small = by (cases_lt i 18) where
  by : (i < 18) ⊎ (18 ≤ i) → i < 18
  by (inl g) = g
  by (inr g) = let f = powers_rise 18 i g in absurd (omega arith)

pub widened_fits : (m i j k t : ℕ) → m < 10 * 10 ^ i → t ≡ 10 ^ k → i + k ≤ 18 + j → j < 18 → m * t < 2 ^ 128
widened_fits m i j k t above e most small =
    let f : m * t ≤ 10 * 10 ^ i * t = mul-le-mul_right t (omega arith) in
    let g : 10 * 10 ^ i * t ≡ 10 ^ (1 + (i + k)) =
    ap (λ n. 10 * 10 ^ i * n) e ∙ grouped (10 ^ i) (10 ^ k) ∙ ap (λ n. 10 * n) (sym (pow-add 10 i k)) ∙ sym (pow-add 10 1 (i + k)) in
    let h : 10 ^ (1 + (i + k)) ≤ 10 ^ 36 = powers_rise (1 + (i + k)) 36 (omega arith) in
    omega arith where
      grouped : (a b : ℕ) → 10 * a * b ≡ 10 * (a * b)
      grouped a b = omega arith

pub enough_digits : (m n i j k t : ℕ) → 0 < n → 10 ^ i ≤ m → n < 10 * 10 ^ j → t ≡ 10 ^ k → i + k ≡ 18 + j → 10 ^ 17 ≤ m * t / n
enough_digits m n i j k t n0 least above e same =
    let f : 10 ^ i * t ≤ m * t = mul-le-mul_right t least in
    let g : 10 ^ i * t ≡ 10 ^ 18 * 10 ^ j = ap (λ a. 10 ^ i * a) e ∙ sym (pow-add 10 i k) ∙ ap (λ a. 10 ^ a) same ∙ pow-add 10 18 j in
    (le-div_iff_mul-le {k = n} {x = 10 ^ 17} {y = m * t} n0).1 (omega arith)
