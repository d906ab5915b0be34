-- Tests of whole numbers are tests of squares of a place.
use Rattle.std.specs.Prelude.{◌≡◌, ℕ, zero, suc, ◌+◌, ◌*◌, ◌/◌, ◌%◌, ◌≤◌, ◌<◌, ◌^◌, false, pos, ◌+ℤ◌, refl, [], ◌∷◌}
use Rattle.std.proofs.Common.{sym, ◌∙◌, ap, ap₂, subst, arith}
use Rattle.std.proofs.Math.Dec.{lit≤}
use Rattle.std.proofs.Math.Nat.{one-le-pow}
use Rattle.std.proofs.Math.Pow.{pow-add}
use Rattle.std.proofs.lemmas.Int.{ints}
use Rattle.exact_fraction.specs.Number.{ℚ, of_ℤ, ◌*ℚ◌, is_zero_ℚ, ◌≤ℚ◌, ◌<ℚ◌}
use Rattle.exact_fraction.specs.NumberLaws.{*ℚ-≤ℚ, ≤ℤ-of_≤ℚ}
use Rattle.exact_fraction.proofs.OrderLaws.{≤ℚ_left, ≤ℚ_right, ≤ℚ_cancel, square-not_negative}
use Rattle.exact_fraction.proofs.Quotients.{≢-is_zero_ℚ, ≡-is_zero_ℚ, positive_not_zero}
use Rattle.exact_fraction.proofs.Ring.{Whole, ◌:*◌, x0, x1, x2, x3, ring}
use Rattle.exact_fraction.proofs.Signs.{whole-not_negative, of_pos-*, of_pos-≤ℚ, product_zero}
use Rattle.exact_fraction.proofs.Strict.{below_by}
use Rattle.exact_law.specs.Rounding.{ten_to, scaled_square, least_root, IsTwoDigits}
use Rattle.decimal18.specs.Bound.{Bound, scaled, value_of}
use Rattle.round_out.specs.Scales.{IsScale, IsPlace}
use Rattle.round_out.specs.declared.scale.Scale.{Scale}
use Rattle.round_out.proofs.Tens.{ten_to-plus, ten_to-inverse, ten_to-not_zero, value_times}

whole_times : (a b : ℕ) → of_ℤ (pos a) *ℚ of_ℤ (pos b) ≡ of_ℤ (pos (a * b))
whole_times a b = sym (of_pos-* a b)

square_not_zero : (x : ℚ) → is_zero_ℚ x ≡ false → is_zero_ℚ (x *ℚ x) ≡ false
square_not_zero x h = ≢-is_zero_ℚ _ (λ e. absurd (cc (h, ≡-is_zero_ℚ x (product_zero x x h e))))

-- ---- the scale of a bound
squares_of_ten : (p k h : ℕ) → p + k ≡ h + h → 10 ^ suc h * 10 ^ suc h ≡ 10 ^ p * (100 * 10 ^ k)
squares_of_ten p k h e =
    let a : 10 ^ (p + k) ≡ 10 ^ p * 10 ^ k = pow-add 10 p k in
    let b : 10 ^ (h + h) ≡ 10 ^ h * 10 ^ h = pow-add 10 h h in
    let c : 10 ^ (p + k) ≡ 10 ^ (h + h) = ap (λ n. 10 ^ n) e in
    let d : 10 ^ suc h ≡ 10 * 10 ^ h = omega arith in
    ap₂ (λ x y. x * y) d d ∙ reordered (10 ^ p) (10 ^ k) (10 ^ h) (sym a ∙ c ∙ b) where
      reordered : (x y z : ℕ) → x * y ≡ z * z → 10 * z * (10 * z) ≡ x * (100 * y)
      reordered x y z g = omega (arith, g)

size_is : (c p k h n : ℕ) → p + k ≡ h + h → n ≡ c * 40000 * 10 ^ k
    → of_ℤ (pos n) ≡ (of_ℤ (pos 400) *ℚ value_of (scaled (pos c) p)) *ℚ (of_ℤ (pos (10 ^ suc h)) *ℚ of_ℤ (pos (10 ^ suc h)))
size_is c p k h n e f =
    ap (λ m. of_ℤ (pos m)) (f ∙ reordered c (10 ^ k))
    ∙ sym (whole_times (400 * c) (100 * 10 ^ k))
    ∙ ap (λ t. t *ℚ of_ℤ (pos (100 * 10 ^ k))) (sym (whole_times 400 c) ∙ ap (λ t. of_ℤ (pos 400) *ℚ t) (sym (value_times (pos c) p)))
    ∙ ring (of_ℤ (pos 400) ∷ value_of (scaled (pos c) p) ∷ of_ℤ (pos (10 ^ p)) ∷ of_ℤ (pos (100 * 10 ^ k)) ∷ [])
    ((x0 :* (x1 :* x2)) :* x3) ((x0 :* x1) :* (x2 :* x3)) refl
    ∙ ap (λ t. (of_ℤ (pos 400) *ℚ value_of (scaled (pos c) p)) *ℚ t)
    (whole_times (10 ^ p) (100 * 10 ^ k) ∙ ap (λ m. of_ℤ (pos m)) (sym (squares_of_ten p k h e)) ∙ sym (whole_times (10 ^ suc h) (10 ^ suc h))) where
      reordered : (c t : ℕ) → c * 40000 * t ≡ 400 * c * (100 * t)
      reordered c t = omega arith

scale_is : (c p k h : ℕ) (s : Scale) → p + k ≡ h + h → s.size ≡ c * 40000 * 10 ^ k → s.unit ≡ 1 → (s.exponent +ℤ pos (suc h)) ≡ pos 0
    → IsScale (value_of (scaled (pos c) p)) s
scale_is c p k h s e f u g = record {
  positive = omega (arith, u);
  same =
      ap (λ t. t *ℚ (ten_to s.exponent *ℚ ten_to s.exponent)) (size_is c p k h s.size e f)
      ∙ ring ((of_ℤ (pos 400) *ℚ value_of (scaled (pos c) p)) ∷ of_ℤ (pos (10 ^ suc h)) ∷ ten_to s.exponent ∷ [])
      ((x0 :* (x1 :* x1)) :* (x2 :* x2)) (x0 :* ((x2 :* x1) :* (x2 :* x1))) refl
      ∙ ap (λ t. (of_ℤ (pos 400) *ℚ value_of (scaled (pos c) p)) *ℚ (t *ℚ t)) (ten_to-inverse s.exponent (suc h) g)
      ∙ ring ((of_ℤ (pos 400) *ℚ value_of (scaled (pos c) p)) ∷ []) (x0 :* (Whole (pos 1) :* Whole (pos 1))) (x0 :* Whole (pos 1)) refl
      ∙ ap (λ n. (of_ℤ (pos 400) *ℚ value_of (scaled (pos c) p)) *ℚ of_ℤ (pos n)) (sym u);
}

-- the same at a place that lies k places further left
pub scale_left : (v : ℚ) (s t : Scale) (k : ℕ) → IsScale v s → s.unit ≡ 1 → t.size ≡ s.size → t.unit ≡ 100 ^ k → t.exponent ≡ (s.exponent +ℤ pos k) → IsScale v t
scale_left v s t k h u e f g = record {
  positive = subst (λ n. 0 < n) (sym f) (one-le-pow k 100 (lit≤ tt));
  same =
      ap₂ (λ n z. of_ℤ (pos n) *ℚ (ten_to z *ℚ ten_to z)) e g
      ∙ ap (λ x. of_ℤ (pos s.size) *ℚ (x *ℚ x)) (ten_to-plus s.exponent k)
      ∙ ring (of_ℤ (pos s.size) ∷ ten_to s.exponent ∷ of_ℤ (pos (10 ^ k)) ∷ []) (x0 :* ((x1 :* x2) :* (x1 :* x2))) ((x0 :* (x1 :* x1)) :* (x2 :* x2)) refl
      ∙ ap₂ ◌*ℚ◌ (h.same ∙ ap (λ n. (of_ℤ (pos 400) *ℚ v) *ℚ of_ℤ (pos n)) u) (whole_times (10 ^ k) (10 ^ k) ∙ ap (λ n. of_ℤ (pos n)) (squared k ∙ sym f))
      ∙ ring ((of_ℤ (pos 400) *ℚ v) ∷ of_ℤ (pos t.unit) ∷ []) ((x0 :* Whole (pos 1)) :* x1) (x0 :* x1) refl;
} where
  squared : (k : ℕ) → 10 ^ k * 10 ^ k ≡ 100 ^ k
  squared zero = refl
  squared (suc k) =
      let step : (x y : ℕ) → x * x ≡ y → 10 * x * (10 * x) ≡ 100 * y = λ x y e. omega (arith, e) in
      let d : 10 ^ suc k ≡ 10 * 10 ^ k = omega arith in
      let f : 100 ^ suc k ≡ 100 * 100 ^ k = omega arith in
      ap₂ (λ x y. x * y) d d ∙ step (10 ^ k) (100 ^ k) (squared k) ∙ sym f

-- ---- tests
test_low : (v : ℚ) (s : Scale) (r : ℕ) → IsScale v s → r * r * s.unit ≤ s.size → scaled_square r s.exponent ≤ℚ of_ℤ (pos 400) *ℚ v
unfolding scaled_square
test_low v s r h k =
    ≤ℚ_cancel _ _ (of_ℤ (pos s.unit)) (whole-not_negative s.unit) (positive_not_zero s.unit h.positive)
    (≤ℚ_left _ _ _
    (ring (of_ℤ (pos (r * r)) ∷ ten_to s.exponent ∷ of_ℤ (pos s.unit) ∷ []) ((x0 :* (x1 :* x1)) :* x2) ((x0 :* x2) :* (x1 :* x1)) refl
    ∙ ap (λ t. t *ℚ (ten_to s.exponent *ℚ ten_to s.exponent)) (whole_times (r * r) s.unit))
    (≤ℚ_right _ _ _ h.same
    (*ℚ-≤ℚ _ _ _ (square-not_negative (ten_to s.exponent)) (of_pos-≤ℚ (r * r * s.unit) s.size k))))

test_high : (v : ℚ) (s : Scale) (r : ℕ) → IsScale v s → s.size < r * r * s.unit → of_ℤ (pos 400) *ℚ v <ℚ scaled_square r s.exponent
unfolding scaled_square
test_high v s r h k =
    below_by _ _
    (λ g.
    let z = ten_to s.exponent *ℚ ten_to s.exponent in
    let step : (of_ℤ (pos (r * r)) *ℚ z) *ℚ of_ℤ (pos s.unit) ≤ℚ (of_ℤ (pos 400) *ℚ v) *ℚ of_ℤ (pos s.unit) =
    *ℚ-≤ℚ _ _ _ (whole-not_negative s.unit) g in
    let moved : of_ℤ (pos (r * r * s.unit)) *ℚ z ≤ℚ of_ℤ (pos s.size) *ℚ z =
    ≤ℚ_left _ _ _
    (ap (λ t. t *ℚ z) (sym (whole_times (r * r) s.unit))
    ∙ ring (of_ℤ (pos (r * r)) ∷ of_ℤ (pos s.unit) ∷ z ∷ []) ((x0 :* x1) :* x2) ((x0 :* x2) :* x1) refl)
    (≤ℚ_right _ _ _ (sym h.same) step) in
    let least = ≤ℤ-of_≤ℚ (pos (r * r * s.unit)) (pos s.size)
    (≤ℚ_cancel _ _ z (square-not_negative (ten_to s.exponent)) (square_not_zero _ (ten_to-not_zero s.exponent)) moved) in
    omega (arith, ints))

-- the digits at a place
pub digits_are : (v : ℚ) (s : Scale) (m : ℕ) → IsPlace v s → 10 ≤ m → m ≤ 99 → least_root m * least_root m * s.unit ≤ s.size
    → s.size < (20 * m + 10) * (20 * m + 10) * s.unit → IsTwoDigits v m s.exponent
digits_are v s m h least most low high = record {
  at_least_10 = least;
  at_most_99 = most;
  low = test_low v s (least_root m) h.scale low;
  high = test_high v s (20 * m + 10) h.scale high;
}

-- ---- an odd number of places, and an even one
odd_places : (p : ℕ) → p % 2 ≡ 1 → p + 1 ≡ (p + 1) / 2 + (p + 1) / 2
odd_places p h = omega (arith)

even_places : (p : ℕ) → (p % 2 ≡ 1 → ⊥) → p + 0 ≡ (p + 1) / 2 + (p + 1) / 2
even_places p h = omega (arith)

pub odd_scale : (v : Bound) (n p : ℕ) (s : Scale) → v.coefficient ≡ pos n → p ≡ v.places → p % 2 ≡ 1 → s.size ≡ n * 40000 * 10 → s.unit ≡ 1
    → (s.exponent +ℤ pos (suc ((p + 1) / 2))) ≡ pos 0 → IsScale (value_of v) s
odd_scale v n p s c e odd f u g =
    subst (λ b. IsScale (value_of b) s) (ap₂ scaled (sym c) e) (scale_is n p 1 ((p + 1) / 2) s (odd_places p odd) f u g)

pub even_scale : (v : Bound) (n p : ℕ) (s : Scale) → v.coefficient ≡ pos n → p ≡ v.places → (p % 2 ≡ 1 → ⊥) → s.size ≡ n * 40000 → s.unit ≡ 1
    → (s.exponent +ℤ pos (suc ((p + 1) / 2))) ≡ pos 0 → IsScale (value_of v) s
even_scale v n p s c e even f u g =
    subst (λ b. IsScale (value_of b) s) (ap₂ scaled (sym c) e)
    (scale_is n p 0 ((p + 1) / 2) s (even_places p even) (f ∙ times_one (n * 40000)) u g) where
      times_one : (m : ℕ) → m ≡ m * 10 ^ 0
      times_one m = omega arith
