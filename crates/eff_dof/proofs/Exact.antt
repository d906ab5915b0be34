-- The weights of exact shares.
use Rattle.std.specs.Prelude.{◌≡◌, ℕ, ◌<◌, Bool, true, false, not, ◌&&◌, ◌||◌, List, [], ◌∷◌, pos, refl}
use Rattle.std.proofs.Common.{sym, ◌∙◌, ap, ap₂}
use Rattle.std.proofs.lemmas.Bool.{true≢false}
use Rattle.exact_fraction.specs.Number.{ℚ, of_ℤ, ◌+ℚ◌, ◌*ℚ◌, ◌/ℚ◌, inv_ℚ, is_zero_ℚ, ◌≤ℚ◌}
use Rattle.exact_fraction.specs.NumberLaws.{≤ℚ_refl, ≤ℚ_trans, ≤ℚ_antisym, ≤ℚ_same, +ℚ_comm, +ℚ-zero, +ℚ-≤ℚ_both, *ℚ-inv}
use Rattle.exact_fraction.proofs.Quotients.{is_zero_ℚ-≡, ≡-is_zero_ℚ, ≢-is_zero_ℚ, positive_not_zero}
use Rattle.exact_fraction.proofs.OrderLaws.{≤ℚ_left, ≤ℚ_right, ≤ℚ_by, *ℚ-≤ℚ_left, +ℚ-not_negative, *ℚ-not_negative, square-not_negative, of_ℤ-injective}
use Rattle.exact_fraction.proofs.Signs.{product_zero}
use Rattle.exact_fraction.proofs.Ring.{ring, Whole, ◌:+◌, ◌:*◌, x0, x1, x2, x3}
use Rattle.exact_fraction.specs.Sums.{total}
use Rattle.exact_law.specs.Degrees.{Share, counts, any_counts, weight}
use std.Quotient.{/_rec}
use Rattle.decimal18.specs.Bound.{Bound, scaled, value_of}
use Rattle.decimal18.proofs.Values.{value-whole}
use Rattle.type_b.specs.Shapes.{is_zero}
use Rattle.fixed_interval.proofs.Inclusions.{zero_ℚ}

pub record IsSound (s : Share) : Type 0 where
  pub part : zero_ℚ ≤ℚ s.part
  pub inverse : zero_ℚ ≤ℚ s.inverse_degrees

abbrev pub AllShares : (Share → Type 0) → List Share → Type 0
AllShares P [] = Unit {0}
AllShares P (s ∷ ss) = P s × AllShares P ss

abbrev pub sum_of_parts : List Share → ℚ
sum_of_parts ss = total (λ s. s.part) ss

-- ---- sums of what is not negative
pub parts-not_negative : (ss : List Share) → AllShares IsSound ss → zero_ℚ ≤ℚ sum_of_parts ss
unfolding total
parts-not_negative [] h = ≤ℚ_refl _
parts-not_negative (s ∷ ss) h = +ℚ-not_negative _ _ (h.0).part (parts-not_negative ss h.1)

pub first_within : (x y r : ℚ) → zero_ℚ ≤ℚ y → x +ℚ y ≤ℚ r → x ≤ℚ r
first_within x y r y0 h = ≤ℚ_trans _ _ _ (≤ℚ_by x (x +ℚ y) y refl y0) h

pub rest_within : (x y r : ℚ) → zero_ℚ ≤ℚ x → x +ℚ y ≤ℚ r → y ≤ℚ r
rest_within x y r x0 h = ≤ℚ_trans _ _ _ (≤ℚ_by y (x +ℚ y) x (+ℚ_comm y x) x0) h

left_zero : (x y : ℚ) → zero_ℚ ≤ℚ x → zero_ℚ ≤ℚ y → x +ℚ y ≡ zero_ℚ → x ≡ zero_ℚ
left_zero x y h k e = ≤ℚ_antisym _ _ (≤ℚ_by x zero_ℚ y e k) h

one_not_zero : (x y : ℚ) → zero_ℚ ≤ℚ x → zero_ℚ ≤ℚ y → (not (is_zero_ℚ x) || not (is_zero_ℚ y)) ≡ not (is_zero_ℚ (x +ℚ y))
one_not_zero x y h k = by (is_zero_ℚ x) (is_zero_ℚ y) refl refl where
  by : (a b : Bool) → is_zero_ℚ x ≡ a → is_zero_ℚ y ≡ b → (not a || not b) ≡ not (is_zero_ℚ (x +ℚ y))
  by true true f g = sym (ap not (≡-is_zero_ℚ (x +ℚ y) (ap₂ ◌+ℚ◌ (is_zero_ℚ-≡ x f) (is_zero_ℚ-≡ y g) ∙ +ℚ-zero zero_ℚ)))
  by false b f g = sym (ap not (≢-is_zero_ℚ (x +ℚ y) (λ e. true≢false (sym (≡-is_zero_ℚ x (left_zero x y h k e)) ∙ f))))
  by true false f g = sym (ap not (≢-is_zero_ℚ (x +ℚ y) (λ e. true≢false (sym (≡-is_zero_ℚ y (left_zero y x k h (+ℚ_comm y x ∙ e))) ∙ g))))

-- ---- weights
weight-not_negative : (s : Share) → IsSound s → zero_ℚ ≤ℚ weight s
unfolding weight
weight-not_negative s h = *ℚ-not_negative _ _ (square-not_negative s.part) h.inverse

pub weights-not_negative : (ss : List Share) → AllShares IsSound ss → zero_ℚ ≤ℚ total weight ss
unfolding total
weights-not_negative [] h = ≤ℚ_refl _
weights-not_negative (s ∷ ss) h = +ℚ-not_negative _ _ (weight-not_negative s h.0) (weights-not_negative ss h.1)

pub no_part : (s : Share) → s.part ≡ zero_ℚ → weight s ≡ zero_ℚ
unfolding weight
no_part s e =
    ap (λ t. t *ℚ t *ℚ s.inverse_degrees) e ∙ ring (s.inverse_degrees ∷ []) (Whole (pos 0) :* Whole (pos 0) :* x0) (Whole (pos 0)) refl

pub no_degrees : (s : Share) → s.inverse_degrees ≡ zero_ℚ → weight s ≡ zero_ℚ
unfolding weight
no_degrees s e = ap (λ t. s.part *ℚ s.part *ℚ t) e ∙ ring (s.part ∷ []) (x0 :* x0 :* Whole (pos 0)) (Whole (pos 0)) refl

zero_by : (s : Share) → is_zero_ℚ s.part ≡ false → weight s ≡ zero_ℚ → s.inverse_degrees ≡ zero_ℚ
unfolding weight
zero_by s f e =
    product_zero s.part s.inverse_degrees f
    (product_zero s.part (s.part *ℚ s.inverse_degrees) f
    (ring (s.part ∷ s.inverse_degrees ∷ []) (x0 :* (x0 :* x1)) (x0 :* x0 :* x1) refl ∙ e))

-- a share counts exactly where it has a weight
counts-weight : (s : Share) → counts s ≡ not (is_zero_ℚ (weight s))
unfolding counts
counts-weight s = by (is_zero_ℚ s.part) (is_zero_ℚ s.inverse_degrees) refl refl where
  by : (a b : Bool) → is_zero_ℚ s.part ≡ a → is_zero_ℚ s.inverse_degrees ≡ b → (not a && not b) ≡ not (is_zero_ℚ (weight s))
  by true b f g = sym (ap not (≡-is_zero_ℚ (weight s) (no_part s (is_zero_ℚ-≡ s.part f))))
  by false true f g = sym (ap not (≡-is_zero_ℚ (weight s) (no_degrees s (is_zero_ℚ-≡ s.inverse_degrees g))))
  by false false f g =
      sym (ap not (≢-is_zero_ℚ (weight s) (λ e. true≢false (sym (≡-is_zero_ℚ s.inverse_degrees (zero_by s f e)) ∙ g))))

pub any_counts-weight : (ss : List Share) → AllShares IsSound ss → any_counts ss ≡ not (is_zero_ℚ (total weight ss))
unfolding total any_counts
any_counts-weight [] h = sym (ap not (≡-is_zero_ℚ zero_ℚ refl))
any_counts-weight (s ∷ ss) h =
    ap₂ ◌||◌ (counts-weight s) (any_counts-weight ss h.1)
    ∙ one_not_zero (weight s) (total weight ss) (weight-not_negative s h.0) (weights-not_negative ss h.1)

pub no_weights : (ss : List Share) → AllShares (λ s. weight s ≡ zero_ℚ) ss → total weight ss ≡ zero_ℚ
unfolding total
no_weights [] h = refl
no_weights (s ∷ ss) h = ap₂ ◌+ℚ◌ h.0 (no_weights ss h.1) ∙ +ℚ-zero zero_ℚ

-- where the degrees of each share are at least m, those of the sum are: m times the sum of the weights is at most
-- the square of the sum
pub weights-within : (m r : ℚ) (ss : List Share) → AllShares IsSound ss → AllShares (λ s. m *ℚ weight s ≤ℚ s.part *ℚ s.part) ss
    → sum_of_parts ss ≤ℚ r → m *ℚ total weight ss ≤ℚ sum_of_parts ss *ℚ r
unfolding total
weights-within m r [] h a k = ≤ℚ_same _ _ (ring (m ∷ r ∷ []) (x0 :* Whole (pos 0)) (Whole (pos 0) :* x1) refl)
weights-within m r (s ∷ ss) h a k =
    let first : s.part ≤ℚ r = first_within s.part (sum_of_parts ss) r (parts-not_negative ss h.1) k in
    let rest : sum_of_parts ss ≤ℚ r = rest_within s.part (sum_of_parts ss) r (h.0).part k in
    ≤ℚ_left _ ((m *ℚ weight s) +ℚ (m *ℚ total weight ss)) _
    (ring (m ∷ weight s ∷ total weight ss ∷ []) (x0 :* (x1 :+ x2)) (x0 :* x1 :+ x0 :* x2) refl)
    (≤ℚ_right _ ((s.part *ℚ r) +ℚ (sum_of_parts ss *ℚ r)) _
    (ring (s.part ∷ sum_of_parts ss ∷ r ∷ []) (x0 :* x2 :+ x1 :* x2) ((x0 :+ x1) :* x2) refl)
    (+ℚ-≤ℚ_both _ _ _ _ (≤ℚ_trans _ _ _ a.0 (*ℚ-≤ℚ_left s.part r s.part (h.0).part first)) (weights-within m r ss h.1 a.1 rest)))

-- ---- the effective degrees are 1 over the sum of the weights of the shares in the variance
pub degrees-times : (v w : ℚ) → is_zero_ℚ v ≡ false → is_zero_ℚ w ≡ false
    → (v *ℚ v /ℚ w) *ℚ (w *ℚ (inv_ℚ v *ℚ inv_ℚ v)) ≡ of_ℤ (pos 1)
degrees-times v w n m =
    ring (v ∷ w ∷ inv_ℚ v ∷ inv_ℚ w ∷ []) ((x0 :* x0 :* x3) :* (x1 :* (x2 :* x2))) (((x0 :* x2) :* (x0 :* x2)) :* (x1 :* x3)) refl
    ∙ ap (λ t. (t *ℚ t) *ℚ (w *ℚ inv_ℚ w)) (*ℚ-inv v n)
    ∙ ap (λ t. (of_ℤ (pos 1) *ℚ of_ℤ (pos 1)) *ℚ t) (*ℚ-inv w m)
    ∙ ring [] ((Whole (pos 1) :* Whole (pos 1)) :* Whole (pos 1)) (Whole (pos 1)) refl

pub not_zero_by : (x t : ℚ) → x *ℚ t ≡ of_ℤ (pos 1) → t ≡ zero_ℚ → ⊥
not_zero_by x t e z =
    let same : pos 0 ≡ pos 1 =
    of_ℤ-injective (pos 0) (pos 1) (ring (x ∷ []) (Whole (pos 0)) (x0 :* Whole (pos 0)) refl ∙ ap (λ y. x *ℚ y) (sym z) ∙ e) in
    absurd (cc)

-- ---- a number with the coefficient 0 is 0
pub zero_value : (b : Bound) → is_zero b ≡ is_zero_ℚ (value_of b)
unfolding is_zero_ℚ value_of /_rec
zero_value b = refl

-- a whole number from 1 on is not 0
pub whole_not_zero : (n : ℕ) → 0 < n → is_zero (scaled (pos n) 0) ≡ false
whole_not_zero n h = zero_value (scaled (pos n) 0) ∙ ap is_zero_ℚ (value-whole (pos n)) ∙ positive_not_zero n h
