-- The corners of which the least and the greatest result comes: of two points all are one, and where an
-- operand has a sign its two ends give them.
use Rattle.std.specs.Prelude.{◌≡◌, Bool, true, false, cond, if◌then◌else◌, pos, refl, [], ◌∷◌}
use Rattle.std.proofs.Common.{sym, ap, ap₂, ◌∙◌, inl, inr}
use Rattle.std.proofs.lemmas.Bool.{true≢false}
use Rattle.exact_fraction.specs.Number.{ℚ, ◌+ℚ◌, ◌*ℚ◌, ◌/ℚ◌, inv_ℚ, is_zero_ℚ, ◌≤ℚ◌, is_at_most_ℚ, min_ℚ, max_ℚ}
use Rattle.exact_fraction.specs.NumberLaws.{≤ℚ_refl, ≤ℚ_trans, ≤ℚ_antisym, ≤ℚ-turned, *ℚ_comm, *ℚ-inv, *ℚ-≤ℚ}
use Rattle.exact_fraction.proofs.Extremes.{min-≤_left, min-≤_right, ≤-min, max-≥_left, max-≥_right, max-≤, min-≤-min, max-≤-max}
use Rattle.exact_fraction.proofs.OrderLaws.{≤ℚ_left, ≤ℚ_right, square-not_negative, *ℚ-≤ℚ_left, *ℚ-≤ℚ_turned, /ℚ-≤ℚ}
use Rattle.exact_fraction.proofs.Ring.{◌:*◌, Whole, x0, x1, ring}
use Rattle.decimal18.specs.Bound.{value_of}
use Rattle.fixed_interval.specs.Interval.{Interval, IsOrdered, outward, sum_span}
use Rattle.fixed_interval.specs.Extremes.{hull}
use Rattle.fixed_interval.specs.Rules.{holds_zero, corners_span, product_span, quotient_span}
use Rattle.fixed_interval.proofs.Hulls.{outward-hull, min-≤-max}
use Rattle.fixed_interval.proofs.Inclusions.{zero_ℚ, ends_not_zero, inverses_in_order, one_side}

-- ---- the lesser and the greater of two in a known order
pub min_first : (x y : ℚ) → x ≤ℚ y → min_ℚ x y ≡ x
min_first x y h = ≤ℚ_antisym _ _ (min-≤_left x y) (≤-min x x y (≤ℚ_refl x) h)

pub min_second : (x y : ℚ) → y ≤ℚ x → min_ℚ x y ≡ y
min_second x y h = ≤ℚ_antisym _ _ (min-≤_right x y) (≤-min y x y h (≤ℚ_refl y))

pub max_first : (x y : ℚ) → y ≤ℚ x → max_ℚ x y ≡ x
max_first x y h = ≤ℚ_antisym _ _ (max-≤ x x y (≤ℚ_refl x) h) (max-≥_left x y)

pub max_second : (x y : ℚ) → x ≤ℚ y → max_ℚ x y ≡ y
max_second x y h = ≤ℚ_antisym _ _ (max-≤ y x y h (≤ℚ_refl y)) (max-≥_right x y)

-- the lesser of two is not above the greater of others where the first is not
pub from_least : (p q r s : ℚ) → p ≤ℚ r → min_ℚ p q ≤ℚ max_ℚ r s
from_least p q r s h = ≤ℚ_trans _ _ _ (min-≤_left p q) (≤ℚ_trans _ _ _ h (max-≥_left r s))

-- ---- four corners
one_corner : (p : ℚ) → corners_span p p p p ≡ outward p p
one_corner p =
    let low : min_ℚ p p ≡ p = min_first p p (≤ℚ_refl p) in
    let high : max_ℚ p p ≡ p = max_first p p (≤ℚ_refl p) in
    ap₂ outward (ap₂ min_ℚ low low ∙ low) (ap₂ max_ℚ high high ∙ high)

rising_corners : (p q r s : ℚ) → p ≤ℚ r → q ≤ℚ s → corners_span p q r s ≡ outward (min_ℚ p q) (max_ℚ r s)
rising_corners p q r s h k = ap₂ outward (min_first _ _ (min-≤-min p r q s h k)) (max_second _ _ (max-≤-max p r q s h k))

falling_corners : (p q r s : ℚ) → r ≤ℚ p → s ≤ℚ q → corners_span p q r s ≡ outward (min_ℚ r s) (max_ℚ p q)
falling_corners p q r s h k = ap₂ outward (min_second _ _ (min-≤-min r p s q h k)) (max_first _ _ (max-≤-max r p s q h k))

least_of_four : (p q r s : ℚ) → min_ℚ (min_ℚ p q) (min_ℚ r s) ≤ℚ min_ℚ (min_ℚ p r) (min_ℚ q s)
least_of_four p q r s =
    let left : min_ℚ (min_ℚ p q) (min_ℚ r s) ≤ℚ min_ℚ p q = min-≤_left _ _ in
    let right : min_ℚ (min_ℚ p q) (min_ℚ r s) ≤ℚ min_ℚ r s = min-≤_right _ _ in
    ≤-min _ _ _ (≤-min _ p r (≤ℚ_trans _ _ _ left (min-≤_left p q)) (≤ℚ_trans _ _ _ right (min-≤_left r s)))
    (≤-min _ q s (≤ℚ_trans _ _ _ left (min-≤_right p q)) (≤ℚ_trans _ _ _ right (min-≤_right r s)))

greatest_of_four : (p q r s : ℚ) → max_ℚ (max_ℚ p r) (max_ℚ q s) ≤ℚ max_ℚ (max_ℚ p q) (max_ℚ r s)
greatest_of_four p q r s =
    let left : max_ℚ p q ≤ℚ max_ℚ (max_ℚ p q) (max_ℚ r s) = max-≥_left _ _ in
    let right : max_ℚ r s ≤ℚ max_ℚ (max_ℚ p q) (max_ℚ r s) = max-≥_right _ _ in
    max-≤ _ _ _ (max-≤ _ p r (≤ℚ_trans _ _ _ (max-≥_left p q) left) (≤ℚ_trans _ _ _ (max-≥_left r s) right))
    (max-≤ _ q s (≤ℚ_trans _ _ _ (max-≥_right p q) left) (≤ℚ_trans _ _ _ (max-≥_right r s) right))

crossed_corners : (p q r s : ℚ) → corners_span p q r s ≡ corners_span p r q s
crossed_corners p q r s =
    ap₂ outward (≤ℚ_antisym _ _ (least_of_four p q r s) (least_of_four p r q s))
    (≤ℚ_antisym _ _ (greatest_of_four p r q s) (greatest_of_four p q r s))

-- ---- the end that gives the least or the greatest
pub falls : (x v w : ℚ) → x ≤ℚ zero_ℚ → v ≤ℚ w → x *ℚ w ≤ℚ x *ℚ v
falls x v w x0 h = ≤ℚ_left _ _ _ (*ℚ_comm x w) (≤ℚ_right _ _ _ (*ℚ_comm v x) (*ℚ-≤ℚ_turned v w x x0 h))

pub least_product : (x : ℚ) (s : Interval) → IsOrdered s
    → x *ℚ value_of (if is_at_most_ℚ zero_ℚ x then s.lo else s.hi) ≡ min_ℚ (x *ℚ value_of s.lo) (x *ℚ value_of s.hi)
least_product x s o = by (is_at_most_ℚ zero_ℚ x) refl where
  by : (t : Bool) → is_at_most_ℚ zero_ℚ x ≡ t → x *ℚ value_of (cond t s.lo s.hi) ≡ min_ℚ (x *ℚ value_of s.lo) (x *ℚ value_of s.hi)
  by true e = sym (min_first _ _ (*ℚ-≤ℚ_left _ _ x (record { holds = e }) o.ordered))
  by false e = sym (min_second _ _ (falls x _ _ (≤ℚ-turned _ _ e) o.ordered))

pub greatest_product : (x : ℚ) (s : Interval) → IsOrdered s
    → x *ℚ value_of (if is_at_most_ℚ zero_ℚ x then s.hi else s.lo) ≡ max_ℚ (x *ℚ value_of s.lo) (x *ℚ value_of s.hi)
greatest_product x s o = by (is_at_most_ℚ zero_ℚ x) refl where
  by : (t : Bool) → is_at_most_ℚ zero_ℚ x ≡ t → x *ℚ value_of (cond t s.hi s.lo) ≡ max_ℚ (x *ℚ value_of s.lo) (x *ℚ value_of s.hi)
  by true e = sym (max_second _ _ (*ℚ-≤ℚ_left _ _ x (record { holds = e }) o.ordered))
  by false e = sym (max_first _ _ (falls x _ _ (≤ℚ-turned _ _ e) o.ordered))

pub least_quotient : (x : ℚ) (s : Interval) → holds_zero s ≡ false → IsOrdered s
    → x /ℚ value_of (if is_at_most_ℚ zero_ℚ x then s.hi else s.lo) ≡ min_ℚ (x /ℚ value_of s.lo) (x /ℚ value_of s.hi)
least_quotient x s z o = by (is_at_most_ℚ zero_ℚ x) refl where
  by : (t : Bool) → is_at_most_ℚ zero_ℚ x ≡ t → x /ℚ value_of (cond t s.hi s.lo) ≡ min_ℚ (x /ℚ value_of s.lo) (x /ℚ value_of s.hi)
  by true e = sym (min_second _ _ (*ℚ-≤ℚ_left _ _ x (record { holds = e }) (inverses_in_order s z o)))
  by false e = sym (min_first _ _ (falls x _ _ (≤ℚ-turned _ _ e) (inverses_in_order s z o)))

pub greatest_quotient : (x : ℚ) (s : Interval) → holds_zero s ≡ false → IsOrdered s
    → x /ℚ value_of (if is_at_most_ℚ zero_ℚ x then s.lo else s.hi) ≡ max_ℚ (x /ℚ value_of s.lo) (x /ℚ value_of s.hi)
greatest_quotient x s z o = by (is_at_most_ℚ zero_ℚ x) refl where
  by : (t : Bool) → is_at_most_ℚ zero_ℚ x ≡ t → x /ℚ value_of (cond t s.lo s.hi) ≡ max_ℚ (x /ℚ value_of s.lo) (x /ℚ value_of s.hi)
  by true e = sym (max_first _ _ (*ℚ-≤ℚ_left _ _ x (record { holds = e }) (inverses_in_order s z o)))
  by false e = sym (max_second _ _ (falls x _ _ (≤ℚ-turned _ _ e) (inverses_in_order s z o)))

-- ---- two points
pub point_sum : (a b : Interval) → a.lo ≡ a.hi → b.lo ≡ b.hi → outward (value_of a.lo +ℚ value_of b.lo) (value_of a.lo +ℚ value_of b.lo) ≡ sum_span a b
point_sum a b e f = rw (← e, ← f) refl

pub point_product : (a b : Interval) → a.lo ≡ a.hi → b.lo ≡ b.hi
    → outward (value_of a.lo *ℚ value_of b.lo) (value_of a.lo *ℚ value_of b.lo) ≡ product_span a b
point_product a b e f = rw (← e, ← f) (sym (one_corner (value_of a.lo *ℚ value_of b.lo)))

pub point_quotient : (a b : Interval) → a.lo ≡ a.hi → b.lo ≡ b.hi
    → outward (value_of a.lo /ℚ value_of b.lo) (value_of a.lo /ℚ value_of b.lo) ≡ quotient_span a b
point_quotient a b e f = rw (← e, ← f) (sym (one_corner (value_of a.lo /ℚ value_of b.lo)))

-- ---- products by the sign of one operand
pub rising_products : (a b : Interval) → IsOrdered a → IsOrdered b → zero_ℚ ≤ℚ value_of b.lo
    → outward (min_ℚ (value_of a.lo *ℚ value_of b.lo) (value_of a.lo *ℚ value_of b.hi)) (max_ℚ (value_of a.hi *ℚ value_of b.lo) (value_of a.hi *ℚ value_of b.hi))
    ≡ product_span a b
rising_products a b o p h =
    sym (rising_corners _ _ _ _ (*ℚ-≤ℚ _ _ _ h o.ordered) (*ℚ-≤ℚ _ _ _ (≤ℚ_trans _ _ _ h p.ordered) o.ordered))

pub falling_products : (a b : Interval) → IsOrdered a → IsOrdered b → value_of b.hi ≤ℚ zero_ℚ
    → outward (min_ℚ (value_of a.hi *ℚ value_of b.lo) (value_of a.hi *ℚ value_of b.hi)) (max_ℚ (value_of a.lo *ℚ value_of b.lo) (value_of a.lo *ℚ value_of b.hi))
    ≡ product_span a b
falling_products a b o p h =
    sym (falling_corners _ _ _ _ (*ℚ-≤ℚ_turned _ _ _ (≤ℚ_trans _ _ _ p.ordered h) o.ordered) (*ℚ-≤ℚ_turned _ _ _ h o.ordered))

pub products_turned : (a b : Interval) → product_span b a ≡ product_span a b
products_turned a b =
    crossed_corners _ _ _ _
    ∙ rw (*ℚ_comm (value_of b.lo) (value_of a.lo), *ℚ_comm (value_of b.lo) (value_of a.hi), *ℚ_comm (value_of b.hi) (value_of a.lo), *ℚ_comm (value_of b.hi) (value_of a.hi)) refl

-- and where both have numbers on either side of 0
pub products_across : (a b : Interval)
    → hull (outward (min_ℚ (value_of a.lo *ℚ value_of b.lo) (value_of a.lo *ℚ value_of b.hi)) (max_ℚ (value_of a.lo *ℚ value_of b.lo) (value_of a.lo *ℚ value_of b.hi)))
    (outward (min_ℚ (value_of a.hi *ℚ value_of b.lo) (value_of a.hi *ℚ value_of b.hi)) (max_ℚ (value_of a.hi *ℚ value_of b.lo) (value_of a.hi *ℚ value_of b.hi)))
    ≡ product_span a b
products_across a b = sym (outward-hull _ _ _ _ (min-≤-max _ _) (min-≤-max _ _))

-- ---- quotients by the sign of the divisor
-- whichever end a sign chooses, it is not 0
pub one_not_zero : (x : ℚ) (s : Interval) → holds_zero s ≡ false → IsOrdered s
    → (is_zero_ℚ (value_of (if is_at_most_ℚ zero_ℚ x then s.hi else s.lo)) ≡ false) × (is_zero_ℚ (value_of (if is_at_most_ℚ zero_ℚ x then s.lo else s.hi)) ≡ false)
one_not_zero x s z o = by (is_at_most_ℚ zero_ℚ x) where
  by : (t : Bool) → (is_zero_ℚ (value_of (cond t s.hi s.lo)) ≡ false) × (is_zero_ℚ (value_of (cond t s.lo s.hi)) ≡ false)
  by true = let n = ends_not_zero s z o in (n.1, n.0)
  by false = ends_not_zero s z o

pub quotients_rise : (a : Interval) (y : ℚ) → IsOrdered a → is_zero_ℚ y ≡ false → zero_ℚ ≤ℚ y → value_of a.lo /ℚ y ≤ℚ value_of a.hi /ℚ y
quotients_rise a y o n h = /ℚ-≤ℚ _ _ y h n o.ordered

inverse_not_positive : (y : ℚ) → y ≤ℚ zero_ℚ → is_zero_ℚ y ≡ false → inv_ℚ y ≤ℚ zero_ℚ
inverse_not_positive y h n =
    let square : ℚ = inv_ℚ y *ℚ inv_ℚ y in
    ≤ℚ_left (inv_ℚ y) (y *ℚ square) zero_ℚ
    (ring (inv_ℚ y ∷ []) x0 (x0 :* Whole (pos 1)) refl ∙ ap (λ t. inv_ℚ y *ℚ t) (sym (*ℚ-inv y n))
    ∙ ring (y ∷ inv_ℚ y ∷ []) (x1 :* (x0 :* x1)) (x0 :* (x1 :* x1)) refl)
    (≤ℚ_right (y *ℚ square) (zero_ℚ *ℚ square) zero_ℚ (ring (square ∷ []) (Whole (pos 0) :* x0) (Whole (pos 0)) refl)
    (*ℚ-≤ℚ y zero_ℚ square (square-not_negative (inv_ℚ y)) h))

pub quotients_fall : (a : Interval) (y : ℚ) → IsOrdered a → is_zero_ℚ y ≡ false → y ≤ℚ zero_ℚ → value_of a.hi /ℚ y ≤ℚ value_of a.lo /ℚ y
quotients_fall a y o n h = *ℚ-≤ℚ_turned _ _ (inv_ℚ y) (inverse_not_positive y h n) o.ordered

-- the other side of 0
pub divisor_below : (b : Interval) → holds_zero b ≡ false → IsOrdered b → is_at_most_ℚ zero_ℚ (value_of b.lo) ≡ false → value_of b.hi ≤ℚ zero_ℚ
divisor_below b z o e = elim (one_side b z) [ inl h ↦ absurd (true≢false (sym h.holds ∙ e)) | inr h ↦ h ]

pub rising_quotients : (a b : Interval) → IsOrdered a → IsOrdered b → holds_zero b ≡ false → zero_ℚ ≤ℚ value_of b.lo
    → outward (min_ℚ (value_of a.lo /ℚ value_of b.lo) (value_of a.lo /ℚ value_of b.hi)) (max_ℚ (value_of a.hi /ℚ value_of b.lo) (value_of a.hi /ℚ value_of b.hi))
    ≡ quotient_span a b
rising_quotients a b o p z h =
    let n = ends_not_zero b z p in
    sym (rising_corners _ _ _ _ (quotients_rise a _ o n.0 h) (quotients_rise a _ o n.1 (≤ℚ_trans _ _ _ h p.ordered)))

pub falling_quotients : (a b : Interval) → IsOrdered a → IsOrdered b → holds_zero b ≡ false → value_of b.hi ≤ℚ zero_ℚ
    → outward (min_ℚ (value_of a.hi /ℚ value_of b.lo) (value_of a.hi /ℚ value_of b.hi)) (max_ℚ (value_of a.lo /ℚ value_of b.lo) (value_of a.lo /ℚ value_of b.hi))
    ≡ quotient_span a b
falling_quotients a b o p z h =
    let n = ends_not_zero b z p in
    sym (falling_corners _ _ _ _ (quotients_fall a _ o n.0 (≤ℚ_trans _ _ _ p.ordered h)) (quotients_fall a _ o n.1 h))
