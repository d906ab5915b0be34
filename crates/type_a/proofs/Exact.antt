-- The spans' exact numbers are those of the law: means and covariances of exact readings.
use Rattle.std.specs.Prelude.{◌≡◌, ℕ, ◌+◌, ◌-◌, ◌*◌, ◌^◌, ◌<◌, ◌≤◌, false, ℤ, pos, ◌+ℤ◌, ◌-ℤ◌, ◌*ℤ◌, neg_ℤ, [], ◌∷◌, length, None, refl}
use Rattle.std.proofs.Common.{sym, ◌∙◌, ap, ap₂, arith}
use Rattle.std.proofs.Math.Dec.{lit≤}
use Rattle.std.proofs.Math.Nat.{one-le-pow}
use Rattle.std.proofs.Math.Pow.{pow-add}
use Rattle.std.proofs.lemmas.Int.{ints}
use Rattle.exact_fraction.specs.Number.{ℚ, of_ℤ, ◌+ℚ◌, ◌*ℚ◌, ◌/ℚ◌, neg_ℚ, ◌-ℚ◌, inv_ℚ, is_zero_ℚ}
use Rattle.exact_fraction.specs.NumberLaws.{*ℚ-inv, of_ℤ-+, of_ℤ-*, of_ℤ-neg}
use Rattle.exact_fraction.specs.Ratio.{fraction_of_ratio}
use Rattle.exact_fraction.specs.declared.ratio.Ratio.{Ratio}
use Rattle.exact_fraction.specs.Sums.{total, below}
use Rattle.exact_fraction.proofs.Quotients.{positive_not_zero, number_of-parts, *ℚ_cancel}
use Rattle.exact_fraction.proofs.Signs.{of_pos-*}
use Rattle.exact_fraction.proofs.SumLaws.{total-times_right, below_same}
use Rattle.exact_fraction.proofs.Ring.{Whole, ◌:-◌, ◌:*◌, x0, x1, x2, x3, x4, x5, ring}
use Rattle.exact_law.specs.Law.{mean, joint}
use Rattle.exact_law.proofs.JointMeans.{divisor_is}
use Rattle.decimal18.specs.Bound.{Bound, scaled, fraction_of, value_of}
use Rattle.decimal18.proofs.Values.{value-shifted}
use Rattle.fixed_interval.specs.Rules.{ratio_at}
use Rattle.type_a.specs.Tables.{Table, width_of, finest, reading_at, coefficient_at, refusal}
use Rattle.type_a.specs.Sums.{coefficient_in, sum_of, sum_of_products}
use Rattle.type_a.specs.Statistics.{exact_reading, exact_mean, exact_joint}
use Rattle.type_a.proofs.Accepted.{places_at}

power : ℕ → ℚ
power p = of_ℤ (pos (10 ^ p))

inverse : ℕ → ℚ
inverse p = inv_ℚ (power p)

-- ---- a reading by its coefficient
value_at_place : (c : ℤ) (p : ℕ) → value_of (scaled c p) ≡ of_ℤ c *ℚ inverse p
unfolding value_of inverse power
value_at_place c p = number_of-parts (fraction_of (scaled c p))

value_by_coefficient : (p : ℕ) (b : Bound) → b.places ≤ p → value_of b ≡ of_ℤ (coefficient_at p b) *ℚ inverse p
value_by_coefficient p b h =
    let e : b.places + (p - b.places) ≡ p = omega (arith, h) in
    sym (value-shifted b.coefficient b.places (p - b.places)) ∙ ap (λ n. value_of (scaled (coefficient_at p b) n)) e ∙ value_at_place (coefficient_at p b) p

exact_by_coefficient : (t : Table) → refusal t ≡ None → (column : ℕ) → column < width_of t → (row : ℕ) → row < length t
    → exact_reading t column row ≡ of_ℤ (coefficient_in t column row) *ℚ inverse (finest t)
exact_by_coefficient t h column k row l = value_by_coefficient (finest t) (reading_at t row column) (places_at t h row column l k)

-- ---- sums
exact_sum : (t : Table) → refusal t ≡ None → (column : ℕ) → column < width_of t
    → total (exact_reading t column) (below (length t)) ≡ sum_of t column (length t) *ℚ inverse (finest t)
exact_sum t h column k =
    below_same _ (λ row. of_ℤ (coefficient_in t column row) *ℚ inverse (finest t)) (length t) (exact_by_coefficient t h column k)
    ∙ total-times_right (λ row. of_ℤ (coefficient_in t column row)) (inverse (finest t)) (below (length t))

exact_sum_of_products : (t : Table) → refusal t ≡ None → (a b : ℕ) → a < width_of t → b < width_of t
    → total (λ row. exact_reading t a row *ℚ exact_reading t b row) (below (length t))
    ≡ sum_of_products t a b (length t) *ℚ (inverse (finest t) *ℚ inverse (finest t))
exact_sum_of_products t h a b k m =
    below_same _ (λ row. (of_ℤ (coefficient_in t a row) *ℚ of_ℤ (coefficient_in t b row)) *ℚ (inverse (finest t) *ℚ inverse (finest t))) (length t)
    (λ row l. ap₂ ◌*ℚ◌ (exact_by_coefficient t h a k row l) (exact_by_coefficient t h b m row l)
    ∙ ring (of_ℤ (coefficient_in t a row) ∷ of_ℤ (coefficient_in t b row) ∷ inverse (finest t) ∷ []) ((x0 :* x2) :* (x1 :* x2)) ((x0 :* x1) :* (x2 :* x2)) refl)
    ∙ total-times_right (λ row. of_ℤ (coefficient_in t a row) *ℚ of_ℤ (coefficient_in t b row)) (inverse (finest t) *ℚ inverse (finest t)) (below (length t))

-- ---- the two ratios
ratio_parts : (q : Ratio) (num : ℤ) (den p : ℕ) → q.num ≡ num → q.den ≡ den → ratio_at q p ≡ (of_ℤ num *ℚ inv_ℚ (of_ℤ (pos den))) *ℚ inverse p
unfolding inverse power
ratio_parts q num den p e f =
    ap (λ x. x /ℚ of_ℤ (pos (10 ^ p))) (number_of-parts (fraction_of_ratio q) ∙ ap₂ (λ a b. of_ℤ a /ℚ of_ℤ (pos b)) e f)

pub mean_is : (t : Table) → refusal t ≡ None → (column : ℕ) → column < width_of t → (q : Ratio) (sum : ℤ) (n p : ℕ)
    → q.num ≡ sum → q.den ≡ n → n ≡ length t → p ≡ finest t → of_ℤ sum ≡ sum_of t column n → ratio_at q p ≡ exact_mean t column
unfolding mean
mean_is t h column k q sum n p e f g i s =
    ratio_parts q sum (length t) p e (f ∙ g)
    ∙ ap₂ (λ x y. (x *ℚ inv_ℚ (of_ℤ (pos (length t)))) *ℚ inverse y) (s ∙ ap (sum_of t column) g) i
    ∙ ring (sum_of t column (length t) ∷ inv_ℚ (of_ℤ (pos (length t))) ∷ inverse (finest t) ∷ []) ((x0 :* x1) :* x2) ((x0 :* x2) :* x1) refl
    ∙ ap (λ x. x /ℚ of_ℤ (pos (length t))) (sym (exact_sum t h column k))

-- 10^(2p) is the square of 10^p
power_not_zero : (p : ℕ) → is_zero_ℚ (power p) ≡ false
unfolding power
power_not_zero p = positive_not_zero (10 ^ p) (one-le-pow p 10 (lit≤ tt))

square_of_power : (p : ℕ) → power (2 * p) ≡ power p *ℚ power p
unfolding power
square_of_power p =
    let e : 2 * p ≡ p + p = omega arith in
    ap (λ n. of_ℤ (pos n)) (ap (λ k. 10 ^ k) e ∙ pow-add 10 p p) ∙ of_pos-* (10 ^ p) (10 ^ p)

square_of_inverse : (p : ℕ) → inverse (2 * p) ≡ inverse p *ℚ inverse p
unfolding inverse
square_of_inverse p =
    *ℚ_cancel (inv_ℚ (power (2 * p))) (inv_ℚ (power p) *ℚ inv_ℚ (power p)) (power (2 * p)) (power_not_zero (2 * p))
    (ring (power (2 * p) ∷ inv_ℚ (power (2 * p)) ∷ []) (x1 :* x0) (x0 :* x1) refl ∙ *ℚ-inv (power (2 * p)) (power_not_zero (2 * p))
    ∙ sym (ap (λ x. (inv_ℚ (power p) *ℚ inv_ℚ (power p)) *ℚ x) (square_of_power p)
    ∙ ring (power p ∷ inv_ℚ (power p) ∷ []) ((x1 :* x1) :* (x0 :* x0)) ((x0 :* x1) :* (x0 :* x1)) refl
    ∙ ap (λ x. x *ℚ x) (*ℚ-inv (power p) (power_not_zero p))
    ∙ ring [] (Whole (pos 1) :* Whole (pos 1)) (Whole (pos 1)) refl))

spread_is : (n : ℕ) (products first second : ℤ)
    → of_ℤ ((pos n *ℤ products) -ℤ (first *ℤ second)) ≡ (of_ℤ (pos n) *ℚ of_ℤ products) -ℚ (of_ℤ first *ℚ of_ℤ second)
spread_is n products first second =
    ap of_ℤ (minus (pos n *ℤ products) (first *ℤ second)) ∙ of_ℤ-+ (pos n *ℤ products) (neg_ℤ (first *ℤ second))
    ∙ ap₂ (λ x y. x +ℚ y) (of_ℤ-* (pos n) products) (of_ℤ-neg (first *ℤ second) ∙ ap neg_ℚ (of_ℤ-* first second)) where
      minus : (x y : ℤ) → (x -ℤ y) ≡ (x +ℤ neg_ℤ y)
      minus x y = omega (arith, ints)

pub joint_is : (t : Table) → refusal t ≡ None → (a b : ℕ) → a < width_of t → b < width_of t → (q : Ratio) (products first second : ℤ) (n d p : ℕ)
    → q.num ≡ ((pos n *ℤ products) -ℤ (first *ℤ second)) → q.den ≡ d → d ≡ n * n * (n - 1) → n ≡ length t → p ≡ finest t
    → of_ℤ products ≡ sum_of_products t a b n → of_ℤ first ≡ sum_of t a n → of_ℤ second ≡ sum_of t b n
    → ratio_at q (2 * p) ≡ exact_joint t a b
unfolding joint
joint_is t h a b k m q products first second n d p e f f' g i s u v =
    let len = length t in
    let n' = of_ℤ (pos len) in
    let z = inv_ℚ (n' *ℚ n' *ℚ of_ℤ (pos (len - 1))) in
    let w = inverse (finest t) in
    ratio_parts q _ d (2 * p) e f
    ∙ ap₂ (λ x y. (x *ℚ inv_ℚ (of_ℤ (pos y))) *ℚ inverse (2 * p))
    (spread_is n products first second
    ∙ ap₂ (λ x y. x -ℚ y) (ap (λ x. of_ℤ (pos n) *ℚ x) s) (ap₂ ◌*ℚ◌ u v)) f'
    ∙ ap₂ (λ j x. (((of_ℤ (pos j) *ℚ sum_of_products t a b j) -ℚ (sum_of t a j *ℚ sum_of t b j)) *ℚ inv_ℚ (of_ℤ (pos (j * j * (j - 1))))) *ℚ x) g
    (ap (λ x. inverse (2 * x)) i ∙ square_of_inverse (finest t))
    ∙ ap (λ x. (((n' *ℚ sum_of_products t a b len) -ℚ (sum_of t a len *ℚ sum_of t b len)) *ℚ inv_ℚ x) *ℚ (w *ℚ w)) (divisor_is len)
    ∙ ring (n' ∷ sum_of_products t a b len ∷ sum_of t a len ∷ sum_of t b len ∷ z ∷ w ∷ [])
    (((x0 :* x1 :- x2 :* x3) :* x4) :* (x5 :* x5)) ((x0 :* (x1 :* (x5 :* x5)) :- (x2 :* x5) :* (x3 :* x5)) :* x4) refl
    ∙ sym (ap₂ (λ x y. ((n' *ℚ x) -ℚ y) *ℚ z) (exact_sum_of_products t h a b k m) (ap₂ ◌*ℚ◌ (exact_sum t h a k) (exact_sum t h b m)))
