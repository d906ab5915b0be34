-- The span of squares is that of the two corners, and of 0 where that is in the span.
use Rattle.std.specs.Prelude.{◌≡◌, ◌⊎◌, true, false, Some, ℤ, pos, neg_ℤ, ◌≤ℤ◌}
use Rattle.std.proofs.Common.{sym, ap, ap₂, ◌∙◌, arith, inl, inr}
use Rattle.std.proofs.lemmas.Bool.{cond-true, cond-false}
use Rattle.std.proofs.lemmas.Int.{ints}
use Rattle.exact_fraction.specs.Number.{ℚ, of_ℤ, ◌*ℚ◌, ◌≤ℚ◌, min_ℚ, max_ℚ}
use Rattle.exact_fraction.specs.NumberLaws.{≤ℚ_refl, ≤ℚ_trans, of_ℤ-≤ℚ, *ℚ_comm}
use Rattle.exact_fraction.proofs.OrderLaws.{≤ℚ_left, ≤ℚ_right, square-not_negative, *ℚ-≤ℚ_left}
use Rattle.decimal18.specs.Bound.{Bound, scaled, value_of, IsBound, IsCanonical}
use Rattle.decimal18.specs.Down.{down, up, top, IsInRange}
use Rattle.decimal18.proofs.Rounding.{some_down}
use Rattle.decimal18.proofs.Upward.{some_up}
use Rattle.decimal18.proofs.Values.{value-whole}
use Rattle.fixed_interval.specs.Interval.{Interval, IsOrdered, outward, point_span}
use Rattle.fixed_interval.specs.Extremes.{hull}
use Rattle.fixed_interval.specs.Rules.{zero_bound, one_bound, holds_zero, product_span, square_span}
use Rattle.exact_fraction.proofs.Extremes.{min-≤_left, ≤-min, max-≥_left}
use Rattle.fixed_interval.proofs.Hulls.{outward-hull, outward_some, two_corners}
use Rattle.fixed_interval.proofs.Inclusions.{zero_ℚ, one_side}
use Rattle.fixed_interval.proofs.Sides.{min_first, min_second, max_first, max_second, falls, rising_products, falling_products}

-- a bound is rounded to itself
pub down_of_bound : (b : Bound) → IsBound b → IsCanonical b → IsInRange (value_of b) → down (value_of b) ≡ Some b
down_of_bound b h c r = some_down _ b r (record { bound = h; not_above = ≤ℚ_refl _; greatest = λ d _ k. k }) c

pub up_of_bound : (b : Bound) → IsBound b → IsCanonical b → IsInRange (value_of b) → up (value_of b) ≡ Some b
up_of_bound b h c r = some_up _ b r (record { bound = h; not_below = ≤ℚ_refl _; least = λ d _ k. k }) c

-- ---- 0 and 1
digit_in_range : (z : ℤ) → neg_ℤ top ≤ℤ z → z ≤ℤ top → IsInRange (value_of (scaled z 0))
digit_in_range z h k = record {
  low = ≤ℚ_right _ _ _ (sym (value-whole z)) (of_ℤ-≤ℚ (neg_ℤ top) z h);
  high = ≤ℚ_left _ _ _ (value-whole z) (of_ℤ-≤ℚ z top k);
}

zero_down : down (value_of zero_bound) ≡ Some zero_bound
zero_down =
    down_of_bound zero_bound (record { digits = omega arith; most = omega arith }) (record { least = λ h. absurd (omega arith) })
    (digit_in_range (pos 0) (omega (arith, ints)) (omega (arith, ints)))

zero_up : up (value_of zero_bound) ≡ Some zero_bound
zero_up =
    up_of_bound zero_bound (record { digits = omega arith; most = omega arith }) (record { least = λ h. absurd (omega arith) })
    (digit_in_range (pos 0) (omega (arith, ints)) (omega (arith, ints)))

pub one_up : up (value_of one_bound) ≡ Some one_bound
one_up =
    up_of_bound one_bound (record { digits = omega arith; most = omega arith }) (record { least = λ h. absurd (omega arith) })
    (digit_in_range (pos 1) (omega (arith, ints)) (omega (arith, ints)))

outward_zero : outward (of_ℤ (pos 0)) (of_ℤ (pos 0)) ≡ Some (point_span zero_bound)
outward_zero = rw (← value-whole (pos 0)) (outward_some _ _ _ _ zero_down zero_up)

-- ---- squares
-- without 0 the least and the greatest product are those of each end with itself
without_zero : (a : Interval) → IsOrdered a → (zero_ℚ ≤ℚ value_of a.lo) ⊎ (value_of a.hi ≤ℚ zero_ℚ)
    → product_span a a ≡ outward (min_ℚ (value_of a.lo *ℚ value_of a.lo) (value_of a.hi *ℚ value_of a.hi)) (max_ℚ (value_of a.lo *ℚ value_of a.lo) (value_of a.hi *ℚ value_of a.hi))
without_zero a o (inl z) =
    let low : value_of a.lo *ℚ value_of a.lo ≤ℚ value_of a.lo *ℚ value_of a.hi = *ℚ-≤ℚ_left _ _ _ z o.ordered in
    let high : value_of a.hi *ℚ value_of a.lo ≤ℚ value_of a.hi *ℚ value_of a.hi = *ℚ-≤ℚ_left _ _ _ (≤ℚ_trans _ _ _ z o.ordered) o.ordered in
    let squares : value_of a.lo *ℚ value_of a.lo ≤ℚ value_of a.hi *ℚ value_of a.hi = ≤ℚ_trans _ _ _ low (≤ℚ_left _ _ _ (*ℚ_comm _ _) high) in
    sym (rising_products a a o o z)
    ∙ ap₂ outward (min_first _ _ low ∙ sym (min_first _ _ squares)) (max_second _ _ high ∙ sym (max_second _ _ squares))
without_zero a o (inr z) =
    let low : value_of a.hi *ℚ value_of a.hi ≤ℚ value_of a.hi *ℚ value_of a.lo = falls _ _ _ z o.ordered in
    let high : value_of a.lo *ℚ value_of a.hi ≤ℚ value_of a.lo *ℚ value_of a.lo = falls _ _ _ (≤ℚ_trans _ _ _ o.ordered z) o.ordered in
    let squares : value_of a.hi *ℚ value_of a.hi ≤ℚ value_of a.lo *ℚ value_of a.lo = ≤ℚ_trans _ _ _ low (≤ℚ_left _ _ _ (*ℚ_comm _ _) high) in
    sym (falling_products a a o o z)
    ∙ ap₂ outward (min_second _ _ low ∙ sym (min_second _ _ squares)) (max_first _ _ high ∙ sym (max_first _ _ squares))

pub square_without_zero : (a : Interval) → IsOrdered a → holds_zero a ≡ false → product_span a a ≡ square_span a
square_without_zero a o e =
    let low : ℚ = value_of a.lo *ℚ value_of a.lo in
    let high : ℚ = value_of a.hi *ℚ value_of a.hi in
    without_zero a o (one_side a e) ∙ ap (λ t. outward t (max_ℚ low high)) (sym (cond-false (holds_zero a) (of_ℤ (pos 0)) (min_ℚ low high) e))

pub square_with_zero : (a : Interval) → holds_zero a ≡ true
    → square_span a ≡ hull (hull (outward (value_of a.lo *ℚ value_of a.lo) (value_of a.lo *ℚ value_of a.lo))
    (outward (value_of a.hi *ℚ value_of a.hi) (value_of a.hi *ℚ value_of a.hi))) (Some (point_span zero_bound))
square_with_zero a e =
    let low : ℚ = value_of a.lo *ℚ value_of a.lo in
    let high : ℚ = value_of a.hi *ℚ value_of a.hi in
    let zero : ℚ = of_ℤ (pos 0) in
    let below : zero ≤ℚ min_ℚ low high = ≤-min zero low high (square-not_negative _) (square-not_negative _) in
    let order : min_ℚ low high ≤ℚ max_ℚ low high = ≤ℚ_trans _ _ _ (min-≤_left low high) (max-≥_left low high) in
    ap (λ t. outward t (max_ℚ low high)) (cond-true (holds_zero a) zero (min_ℚ low high) e)
    ∙ ap₂ outward (sym (min_second (min_ℚ low high) zero below)) (sym (max_first (max_ℚ low high) zero (≤ℚ_trans _ _ _ below order)))
    ∙ outward-hull (min_ℚ low high) (max_ℚ low high) zero zero order (≤ℚ_refl zero)
    ∙ ap₂ hull (two_corners low high) outward_zero
