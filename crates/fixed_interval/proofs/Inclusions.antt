-- An exact result of numbers in spans lies between the corners of the operation.
use Rattle.std.specs.Prelude.{◌≡◌, ◌≢◌, ◌⊎◌, Bool, true, false, cond, Some, Result, Err, IfOk, pos, ◌&&◌, refl, [], ◌∷◌}
use Rattle.std.specs.Option.{ok_or}
use Rattle.std.proofs.Common.{sym, ap, ◌∙◌, inl, inr}
use Rattle.std.proofs.lemmas.Bool.{and_from, true≢false, cond-true, cond-false}
use std.Quotient.{/_rec}
use Rattle.exact_fraction.specs.Fraction.{is_zero_ℤ}
use Rattle.exact_fraction.specs.Number.{ℚ, of_ℤ, ◌+ℚ◌, ◌*ℚ◌, ◌/ℚ◌, neg_ℚ, inv_ℚ, is_zero_ℚ, is_at_most_ℚ, ◌≤ℚ◌, min_ℚ, max_ℚ}
use Rattle.exact_fraction.specs.NumberLaws.{≤ℚ_refl, ≤ℚ_trans, ≤ℚ_total, ≤ℚ-turned, +ℚ-≤ℚ_both, neg_ℚ-≤ℚ, *ℚ_comm, *ℚ-inv}
use Rattle.exact_fraction.proofs.Quotients.{≢-is_zero_ℚ}
use Rattle.exact_fraction.proofs.OrderLaws.{≤ℚ_left, ≤ℚ_right, ≤ℚ_by, ≤ℚ-difference, *ℚ-not_negative, square-not_negative, *ℚ-≤ℚ_both, *ℚ-≤ℚ_turned, *ℚ-between}
use Rattle.exact_fraction.proofs.Ring.{◌:+◌, ◌:*◌, ◌:-◌, Whole, x0, x1, x2, x3, ring}
use Rattle.decimal18.specs.Bound.{Bound, value_of}
use Rattle.decimal18.proofs.Values.{value-whole}
use Rattle.fixed_interval.specs.Interval.{Interval, Encloses, IsOrdered}
use Rattle.fixed_interval.specs.Rules.{zero_bound, holds_zero, corners_span, difference_span, product_span, square_span, quotient_span, quotient}
use Rattle.fixed_interval.specs.declared.faults.ArithFault.{ArithFault}
use Rattle.fixed_interval.specs.declared.faults.ArithFault.TheVariants.{ZeroDivisor, Overflow}
use Rattle.fixed_interval.proofs.Enclosures.{outward_encloses, answer_has}
use Rattle.exact_fraction.proofs.Extremes.{min-≤_left, min-≤_right, max-≥_left, max-≥_right}

-- ---- between two numbers, in their order or in the other
abbrev pub Lies : ℚ → ℚ → ℚ → Type 0
Lies x y z = ((x ≤ℚ z) × (z ≤ℚ y)) ⊎ ((y ≤ℚ z) × (z ≤ℚ x))

lies_low : (x y z m : ℚ) → Lies x y z → m ≤ℚ x → m ≤ℚ y → m ≤ℚ z
lies_low x y z m (inl h) j k = ≤ℚ_trans _ _ _ j h.0
lies_low x y z m (inr h) j k = ≤ℚ_trans _ _ _ k h.0

lies_high : (x y z m : ℚ) → Lies x y z → x ≤ℚ m → y ≤ℚ m → z ≤ℚ m
lies_high x y z m (inl h) j k = ≤ℚ_trans _ _ _ h.1 k
lies_high x y z m (inr h) j k = ≤ℚ_trans _ _ _ h.1 j

turned : (x y z : ℚ) → Lies x y z → Lies y x z
turned x y z (inl h) = inr h
turned x y z (inr h) = inl h

lies_times : (x y z w : ℚ) → Lies x y z → Lies (x *ℚ w) (y *ℚ w) (z *ℚ w)
lies_times x y z w (inl h) = *ℚ-between x z y w h.0 h.1
lies_times x y z w (inr h) = turned (y *ℚ w) (x *ℚ w) (z *ℚ w) (*ℚ-between y z x w h.0 h.1)

times_lies : (x y z w : ℚ) → Lies x y z → Lies (w *ℚ x) (w *ℚ y) (w *ℚ z)
times_lies x y z w h = rw (*ℚ_comm w x, *ℚ_comm w y, *ℚ_comm w z) (lies_times x y z w h)

-- ---- four corners
-- the product of a number between x and y and one between v and w
pub corners_enclose : (x y v w : ℚ) (s : Interval) → corners_span (x *ℚ v) (x *ℚ w) (y *ℚ v) (y *ℚ w) ≡ Some s
    → (q t : ℚ) → Lies x y q → Lies v w t → Encloses s (q *ℚ t)
corners_enclose x y v w s e q t h k =
    let m : ℚ = min_ℚ (min_ℚ (x *ℚ v) (x *ℚ w)) (min_ℚ (y *ℚ v) (y *ℚ w)) in
    let n : ℚ = max_ℚ (max_ℚ (x *ℚ v) (x *ℚ w)) (max_ℚ (y *ℚ v) (y *ℚ w)) in
    let left : m ≤ℚ min_ℚ (x *ℚ v) (x *ℚ w) = min-≤_left _ _ in
    let right : m ≤ℚ min_ℚ (y *ℚ v) (y *ℚ w) = min-≤_right _ _ in
    let left_high : max_ℚ (x *ℚ v) (x *ℚ w) ≤ℚ n = max-≥_left _ _ in
    let right_high : max_ℚ (y *ℚ v) (y *ℚ w) ≤ℚ n = max-≥_right _ _ in
    let of_x : Lies (x *ℚ v) (x *ℚ w) (x *ℚ t) = times_lies v w t x k in
    let of_y : Lies (y *ℚ v) (y *ℚ w) (y *ℚ t) = times_lies v w t y k in
    let of_t : Lies (x *ℚ t) (y *ℚ t) (q *ℚ t) = lies_times x y q t h in
    outward_encloses m n s e (q *ℚ t)
    (lies_low _ _ _ m of_t
    (lies_low _ _ _ m of_x (≤ℚ_trans _ _ _ left (min-≤_left _ _)) (≤ℚ_trans _ _ _ left (min-≤_right _ _)))
    (lies_low _ _ _ m of_y (≤ℚ_trans _ _ _ right (min-≤_left _ _)) (≤ℚ_trans _ _ _ right (min-≤_right _ _))))
    (lies_high _ _ _ n of_t
    (lies_high _ _ _ n of_x (≤ℚ_trans _ _ _ (max-≥_left _ _) left_high) (≤ℚ_trans _ _ _ (max-≥_right _ _) left_high))
    (lies_high _ _ _ n of_y (≤ℚ_trans _ _ _ (max-≥_left _ _) right_high) (≤ℚ_trans _ _ _ (max-≥_right _ _) right_high)))

pub product_span_encloses : (a b s : Interval) → product_span a b ≡ Some s → (q r : ℚ) → Encloses a q → Encloses b r → Encloses s (q *ℚ r)
product_span_encloses a b s e q r h k =
    corners_enclose (value_of a.lo) (value_of a.hi) (value_of b.lo) (value_of b.hi) s e q r (inl (h.low, h.high)) (inl (k.low, k.high))

pub difference_span_encloses : (a b s : Interval) → difference_span a b ≡ Some s → (q r : ℚ) → Encloses a q → Encloses b r → Encloses s (q +ℚ neg_ℚ r)
difference_span_encloses a b s e q r h k =
    outward_encloses _ _ s e _ (+ℚ-≤ℚ_both _ _ _ _ h.low (neg_ℚ-≤ℚ _ _ k.high)) (+ℚ-≤ℚ_both _ _ _ _ h.high (neg_ℚ-≤ℚ _ _ k.low))

pub difference_in_order : (a b : Interval) → IsOrdered a → IsOrdered b
    → (value_of a.lo +ℚ neg_ℚ (value_of b.hi)) ≤ℚ (value_of a.hi +ℚ neg_ℚ (value_of b.lo))
difference_in_order a b h k = +ℚ-≤ℚ_both _ _ _ _ h.ordered (neg_ℚ-≤ℚ _ _ k.ordered)

-- ---- 0 in a span
abbrev pub zero_ℚ : ℚ
zero_ℚ = of_ℤ (pos 0)

pub Encloses-holds_zero : (s : Interval) (q : ℚ) → Encloses s q → q ≡ zero_ℚ → holds_zero s ≡ true
unfolding holds_zero
Encloses-holds_zero s q h e =
    and_from _ _ (≤ℚ_right _ q _ e h.low).holds (≤ℚ_left zero_ℚ q _ (sym e) h.high).holds

-- by the two tests, at the ends as they were read
pub holds_zero_high : (s : Interval) (lo hi z w : Bound) (t u : Bool) → lo ≡ s.lo → hi ≡ s.hi → z ≡ zero_bound → w ≡ zero_bound
    → t ≡ is_at_most_ℚ (value_of lo) (value_of z) → t ≡ true → u ≡ is_at_most_ℚ (value_of w) (value_of hi) → u ≡ holds_zero s
unfolding holds_zero
holds_zero_high s lo hi z w t u e f g h i j k =
    let low : is_at_most_ℚ (value_of s.lo) zero_ℚ ≡ true = rw (e, g, value-whole (pos 0)) at (sym i ∙ j) in
    let high : u ≡ is_at_most_ℚ zero_ℚ (value_of s.hi) = rw (f, h, value-whole (pos 0)) at k in
    rw low high

pub holds_zero_low : (s : Interval) (lo z : Bound) (t : Bool) → lo ≡ s.lo → z ≡ zero_bound
    → t ≡ is_at_most_ℚ (value_of lo) (value_of z) → t ≡ false → t ≡ holds_zero s
unfolding holds_zero
holds_zero_low s lo z t e f g h =
    let low : is_at_most_ℚ (value_of s.lo) zero_ℚ ≡ false = rw (e, f, value-whole (pos 0)) at (sym g ∙ h) in
    rw low h

-- a span without 0 lies on one side of it
pub one_side : (s : Interval) → holds_zero s ≡ false → (zero_ℚ ≤ℚ value_of s.lo) ⊎ (value_of s.hi ≤ℚ zero_ℚ)
unfolding holds_zero
one_side s e = by (is_at_most_ℚ (value_of s.lo) zero_ℚ) (is_at_most_ℚ zero_ℚ (value_of s.hi)) refl refl e where
  by : (t u : Bool) → is_at_most_ℚ (value_of s.lo) zero_ℚ ≡ t → is_at_most_ℚ zero_ℚ (value_of s.hi) ≡ u → (t && u) ≡ false
      → (zero_ℚ ≤ℚ value_of s.lo) ⊎ (value_of s.hi ≤ℚ zero_ℚ)
  by true true f g e = absurd (true≢false e)
  by true false f g e = inr (≤ℚ-turned _ _ g)
  by false u f g e = inl (≤ℚ-turned _ _ f)

pub not_zero : (s : Interval) → holds_zero s ≡ false → (q : ℚ) → Encloses s q → is_zero_ℚ q ≡ false
not_zero s e q h = ≢-is_zero_ℚ q (λ z. true≢false (sym (Encloses-holds_zero s q h z) ∙ e))

both_negative : (x y : ℚ) → x ≤ℚ zero_ℚ → y ≤ℚ zero_ℚ → zero_ℚ ≤ℚ x *ℚ y
both_negative x y h k =
    ≤ℚ_left _ (zero_ℚ *ℚ y) _ (ring (y ∷ []) (Whole (pos 0)) (Whole (pos 0) :* x0) refl) (*ℚ-≤ℚ_turned x zero_ℚ y k h)

same_side : (s : Interval) → (zero_ℚ ≤ℚ value_of s.lo) ⊎ (value_of s.hi ≤ℚ zero_ℚ) → (q r : ℚ) → Encloses s q → Encloses s r → zero_ℚ ≤ℚ q *ℚ r
same_side s (inl z) q r h k = *ℚ-not_negative q r (≤ℚ_trans _ _ _ z h.low) (≤ℚ_trans _ _ _ z k.low)
same_side s (inr z) q r h k = both_negative q r (≤ℚ_trans _ _ _ h.high z) (≤ℚ_trans _ _ _ k.high z)

-- ---- inverses
inverses_not_negative : (x y : ℚ) → is_zero_ℚ x ≡ false → is_zero_ℚ y ≡ false → zero_ℚ ≤ℚ x *ℚ y → zero_ℚ ≤ℚ inv_ℚ x *ℚ inv_ℚ y
inverses_not_negative x y n m h =
    ≤ℚ_right _ ((x *ℚ y) *ℚ ((inv_ℚ x *ℚ inv_ℚ y) *ℚ (inv_ℚ x *ℚ inv_ℚ y))) _
    (ring (x ∷ y ∷ inv_ℚ x ∷ inv_ℚ y ∷ []) ((x0 :* x1) :* ((x2 :* x3) :* (x2 :* x3))) ((x0 :* x2) :* (x1 :* x3) :* (x2 :* x3)) refl
    ∙ ap (λ t. t *ℚ (y *ℚ inv_ℚ y) *ℚ (inv_ℚ x *ℚ inv_ℚ y)) (*ℚ-inv x n)
    ∙ ap (λ t. of_ℤ (pos 1) *ℚ t *ℚ (inv_ℚ x *ℚ inv_ℚ y)) (*ℚ-inv y m)
    ∙ ring (inv_ℚ x ∷ inv_ℚ y ∷ []) (Whole (pos 1) :* Whole (pos 1) :* (x0 :* x1)) (x0 :* x1) refl)
    (*ℚ-not_negative _ _ h (square-not_negative (inv_ℚ x *ℚ inv_ℚ y)))

-- of two numbers on one side of 0 the greater has the lesser inverse
pub inverse_falls : (x y : ℚ) → is_zero_ℚ x ≡ false → is_zero_ℚ y ≡ false → zero_ℚ ≤ℚ x *ℚ y → x ≤ℚ y → inv_ℚ y ≤ℚ inv_ℚ x
inverse_falls x y n m h k =
    ≤ℚ_by (inv_ℚ y) (inv_ℚ x) ((y +ℚ neg_ℚ x) *ℚ (inv_ℚ x *ℚ inv_ℚ y))
    (ring (x ∷ y ∷ inv_ℚ x ∷ inv_ℚ y ∷ []) (x3 :+ (x1 :- x0) :* (x2 :* x3)) (x3 :+ (x1 :* x3) :* x2 :- (x0 :* x2) :* x3) refl
    ∙ ap (λ t. inv_ℚ y +ℚ t *ℚ inv_ℚ x +ℚ neg_ℚ ((x *ℚ inv_ℚ x) *ℚ inv_ℚ y)) (*ℚ-inv y m)
    ∙ ap (λ t. inv_ℚ y +ℚ of_ℤ (pos 1) *ℚ inv_ℚ x +ℚ neg_ℚ (t *ℚ inv_ℚ y)) (*ℚ-inv x n)
    ∙ ring (inv_ℚ x ∷ inv_ℚ y ∷ []) (x1 :+ Whole (pos 1) :* x0 :- Whole (pos 1) :* x1) x0 refl)
    (*ℚ-not_negative _ _ (≤ℚ-difference x y k) (inverses_not_negative x y n m h))

low_end : (s : Interval) → IsOrdered s → Encloses s (value_of s.lo)
low_end s o = record { low = ≤ℚ_refl _; high = o.ordered }

high_end : (s : Interval) → IsOrdered s → Encloses s (value_of s.hi)
high_end s o = record { low = o.ordered; high = ≤ℚ_refl _ }

-- a bound that is not 0 has a coefficient that is not 0
pub coefficient_not_zero : (b : Bound) → is_zero_ℚ (value_of b) ≡ false → b.coefficient ≢ pos 0
unfolding is_zero_ℚ value_of /_rec
coefficient_not_zero b h e = true≢false (sym (ap is_zero_ℤ e) ∙ h)

-- where 0 is not in a span, no end of it is 0
pub ends_not_zero : (s : Interval) → holds_zero s ≡ false → IsOrdered s → (is_zero_ℚ (value_of s.lo) ≡ false) × (is_zero_ℚ (value_of s.hi) ≡ false)
ends_not_zero s z o = (not_zero s z _ (low_end s o), not_zero s z _ (high_end s o))

-- the upper end has the lesser inverse
pub inverses_in_order : (s : Interval) → holds_zero s ≡ false → IsOrdered s → inv_ℚ (value_of s.hi) ≤ℚ inv_ℚ (value_of s.lo)
inverses_in_order s z o =
    let low : Encloses s (value_of s.lo) = low_end s o in
    let high : Encloses s (value_of s.hi) = high_end s o in
    inverse_falls _ _ (not_zero s z _ low) (not_zero s z _ high) (same_side s (one_side s z) _ _ low high) o.ordered

quotient_span_encloses : (a b s : Interval) → holds_zero b ≡ false → quotient_span a b ≡ Some s
    → (q r : ℚ) → Encloses a q → Encloses b r → Encloses s (q /ℚ r)
quotient_span_encloses a b s z e q r h k =
    let o : IsOrdered b = record { ordered = ≤ℚ_trans _ _ _ k.low k.high } in
    let low : Encloses b (value_of b.lo) = low_end b o in
    let high : Encloses b (value_of b.hi) = high_end b o in
    let side = one_side b z in
    let n = not_zero b z in
    corners_enclose (value_of a.lo) (value_of a.hi) (inv_ℚ (value_of b.lo)) (inv_ℚ (value_of b.hi)) s e q (inv_ℚ r)
    (inl (h.low, h.high))
    (inr (
      inverse_falls r (value_of b.hi) (n _ k) (n _ high) (same_side b side _ _ k high) k.high,
      inverse_falls (value_of b.lo) r (n _ low) (n _ k) (same_side b side _ _ low k) k.low,
    ))

-- ---- the answer of a division
pub quotient_by_zero : (a b : Interval) → holds_zero b ≡ true → Err ZeroDivisor ≡ quotient a b
unfolding quotient
quotient_by_zero a b e = sym (cond-true _ _ _ e)

pub quotient_without_zero : (a b : Interval) → holds_zero b ≡ false → ok_or (quotient_span a b) Overflow ≡ quotient a b
unfolding quotient
quotient_without_zero a b e = sym (cond-false _ _ _ e)

pub quotient_encloses : (a b : Interval) (r : Result Interval ArithFault) → r ≡ quotient a b → (q t : ℚ) → Encloses a q → Encloses b t
    → IfOk r (λ s. Encloses s (q /ℚ t))
quotient_encloses a b r e q t h k = rw e (by (holds_zero b) refl) where
  by : (z : Bool) → holds_zero b ≡ z → IfOk (quotient a b) (λ s. Encloses s (q /ℚ t))
  by true f = rw (← quotient_by_zero a b f) tt
  by false f =
      rw (← quotient_without_zero a b f)
      (answer_has (quotient_span a b) _ Overflow refl (λ s. Encloses s (q /ℚ t)) (λ s g. quotient_span_encloses a b s f g q t h k))

-- ---- squares
square_rises : (x y : ℚ) → zero_ℚ ≤ℚ x → x ≤ℚ y → x *ℚ x ≤ℚ y *ℚ y
square_rises x y h k = *ℚ-≤ℚ_both x y x y h k h k

square_falls : (x y : ℚ) → y ≤ℚ zero_ℚ → x ≤ℚ y → y *ℚ y ≤ℚ x *ℚ x
square_falls x y h k =
    ≤ℚ_trans _ (x *ℚ y) _ (*ℚ-≤ℚ_turned x y y h k)
    (≤ℚ_left _ (y *ℚ x) _ (*ℚ_comm x y) (*ℚ-≤ℚ_turned x y x (≤ℚ_trans _ _ _ k h) k))

square_high : (a : Interval) (q : ℚ) → Encloses a q → (zero_ℚ ≤ℚ q) ⊎ (q ≤ℚ zero_ℚ)
    → q *ℚ q ≤ℚ max_ℚ (value_of a.lo *ℚ value_of a.lo) (value_of a.hi *ℚ value_of a.hi)
square_high a q h (inl z) = ≤ℚ_trans _ _ _ (square_rises q _ z h.high) (max-≥_right _ _)
square_high a q h (inr z) = ≤ℚ_trans _ _ _ (square_falls _ q z h.low) (max-≥_left _ _)

square_low : (a : Interval) (q : ℚ) → Encloses a q → (zero_ℚ ≤ℚ value_of a.lo) ⊎ (value_of a.hi ≤ℚ zero_ℚ)
    → min_ℚ (value_of a.lo *ℚ value_of a.lo) (value_of a.hi *ℚ value_of a.hi) ≤ℚ q *ℚ q
square_low a q h (inl z) = ≤ℚ_trans _ _ _ (min-≤_left _ _) (square_rises _ q z h.low)
square_low a q h (inr z) = ≤ℚ_trans _ _ _ (min-≤_right _ _) (square_falls q _ z h.high)

least_square : (a : Interval) (q : ℚ) → Encloses a q → (t : Bool) → holds_zero a ≡ t
    → cond t zero_ℚ (min_ℚ (value_of a.lo *ℚ value_of a.lo) (value_of a.hi *ℚ value_of a.hi)) ≤ℚ q *ℚ q
least_square a q h true e = square-not_negative q
least_square a q h false e = square_low a q h (one_side a e)

pub square_span_encloses : (a s : Interval) → square_span a ≡ Some s → (q : ℚ) → Encloses a q → Encloses s (q *ℚ q)
square_span_encloses a s e q h = outward_encloses _ _ s e (q *ℚ q) (least_square a q h (holds_zero a) refl) (square_high a q h (≤ℚ_total zero_ℚ q))
