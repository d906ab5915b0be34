-- Spans whose ends are decimal numbers, and operations with the point 0.
use Rattle.std.specs.Prelude.{◌≡◌, ℕ, zero, suc, ◌^◌, ◌<◌, ℤ, pos, negsuc, neg_ℤ, unsigned_abs, [], ◌∷◌, Some, refl}
use Rattle.std.proofs.Common.{arith, ◌∙◌, ap₂}
use Rattle.exact_fraction.specs.Number.{ℚ, ◌+ℚ◌, ◌*ℚ◌, neg_ℚ, min_ℚ, max_ℚ}
use Rattle.exact_fraction.proofs.Ring.{ring, Whole, ◌:+◌, ◌:-◌, ◌:*◌, x0}
use Rattle.exact_fraction.proofs.Extremes.{min_cases, max_cases}
use Rattle.decimal18.specs.Bound.{Bound, scaled, value_of, IsBound, IsDecimal}
use Rattle.decimal18.specs.Down.{negated, IsInRange}
use Rattle.decimal18.proofs.CutOff.{below_top, above_bottom}
use Rattle.decimal18.proofs.Rounding.{down_some}
use Rattle.decimal18.proofs.Upward.{up_some, IsCanonical-negated}
use Rattle.decimal18.proofs.Values.{value-whole}
use Rattle.fixed_interval.specs.Interval.{Interval, outward, point_span, sum_span}
use Rattle.fixed_interval.specs.Rules.{zero_bound, one_bound, corners_span, difference_span, product_span}
use Rattle.fixed_interval.specs.Sums.{zero_span}
use Rattle.fixed_interval.proofs.Enclosures.{outward_ends}
use Rattle.fixed_interval.proofs.Hulls.{outward_some}
use Rattle.fixed_interval.proofs.Squares.{down_of_bound, up_of_bound}

-- ---- spans whose ends are decimal numbers, as operations make them
pub record HasDecimals (s : Interval) : Type 0 where
  pub lo : IsDecimal s.lo
  pub hi : IsDecimal s.hi

bound_in_range : (b : Bound) → IsBound b → IsInRange (value_of b)
bound_in_range b h = record { low = above_bottom b h; high = below_top b h }

-- such a span is rounded to itself
same_outward : (s : Interval) → HasDecimals s → outward (value_of s.lo) (value_of s.hi) ≡ Some s
same_outward s h =
    outward_some _ _ s.lo s.hi (down_of_bound s.lo h.lo.bound h.lo.canonical (bound_in_range s.lo h.lo.bound))
    (up_of_bound s.hi h.hi.bound h.hi.canonical (bound_in_range s.hi h.hi.bound))

pub outward_decimals : (least greatest : ℚ) (s : Interval) → outward least greatest ≡ Some s → HasDecimals s
outward_decimals least greatest s e =
    let ends = outward_ends least greatest s e in
    let low = down_some least s.lo ends.lo in
    let high = up_some greatest s.hi ends.hi in
    record { lo = record { bound = low.1.bound; canonical = low.2 }; hi = record { bound = high.1.bound; canonical = high.2 } }

same_size : (z : ℤ) → unsigned_abs (neg_ℤ z) ≡ unsigned_abs z
same_size (pos zero) = refl
same_size (pos (suc n)) = refl
same_size (negsuc n) = refl

pub negated_decimal : (b : Bound) → IsDecimal b → IsDecimal (negated b)
negated_decimal b h = record {
  bound = record { digits = rw (same_size b.coefficient) h.bound.digits; most = h.bound.most };
  canonical = IsCanonical-negated b h.canonical;
}

digit_decimal : (n : ℕ) → n < 10 ^ 18 → IsDecimal (scaled (pos n) 0)
digit_decimal n h = record {
  bound = record { digits = h; most = omega arith };
  canonical = record { least = λ h. absurd (omega arith) };
}

pub zero_decimals : HasDecimals zero_span
zero_decimals = record { lo = digit_decimal 0 (omega arith); hi = digit_decimal 0 (omega arith) }

pub one_decimals : HasDecimals (point_span one_bound)
one_decimals = record { lo = digit_decimal 1 (omega arith); hi = digit_decimal 1 (omega arith) }

-- ---- operations with the point 0
plus_zero : (x : ℚ) → x +ℚ value_of zero_bound ≡ x
plus_zero x = rw (value-whole (pos 0)) (ring (x ∷ []) (x0 :+ Whole (pos 0)) x0 refl)

zero_plus : (x : ℚ) → value_of zero_bound +ℚ x ≡ x
zero_plus x = rw (value-whole (pos 0)) (ring (x ∷ []) (Whole (pos 0) :+ x0) x0 refl)

less_zero : (x : ℚ) → x +ℚ neg_ℚ (value_of zero_bound) ≡ x
less_zero x = rw (value-whole (pos 0)) (ring (x ∷ []) (x0 :- Whole (pos 0)) x0 refl)

times_zero : (x : ℚ) → x *ℚ value_of zero_bound ≡ value_of zero_bound
times_zero x = rw (value-whole (pos 0)) (ring (x ∷ []) (x0 :* Whole (pos 0)) (Whole (pos 0)) refl)

zero_times : (x : ℚ) → value_of zero_bound *ℚ x ≡ value_of zero_bound
zero_times x = rw (value-whole (pos 0)) (ring (x ∷ []) (Whole (pos 0) :* x0) (Whole (pos 0)) refl)

pub sum_with_zero : (s : Interval) → HasDecimals s → sum_span s zero_span ≡ Some s
sum_with_zero s h = ap₂ outward (plus_zero (value_of s.lo)) (plus_zero (value_of s.hi)) ∙ same_outward s h

pub sum_from_zero : (s : Interval) → HasDecimals s → sum_span zero_span s ≡ Some s
sum_from_zero s h = ap₂ outward (zero_plus (value_of s.lo)) (zero_plus (value_of s.hi)) ∙ same_outward s h

pub difference_with_zero : (s : Interval) → HasDecimals s → difference_span s zero_span ≡ Some s
difference_with_zero s h = ap₂ outward (less_zero (value_of s.lo)) (less_zero (value_of s.hi)) ∙ same_outward s h

least_same : (x : ℚ) → min_ℚ x x ≡ x
least_same x = min_cases x x (λ t. t ≡ x) (λ _. refl) (λ _. refl)

greatest_same : (x : ℚ) → max_ℚ x x ≡ x
greatest_same x = max_cases x x (λ t. t ≡ x) (λ _. refl) (λ _. refl)

four_zeros : (p q r s : ℚ) → p ≡ value_of zero_bound → q ≡ value_of zero_bound → r ≡ value_of zero_bound → s ≡ value_of zero_bound
    → corners_span p q r s ≡ Some zero_span
four_zeros p q r s a b c d =
    let z : ℚ = value_of zero_bound in
    rw (a, b, c, d)
    (ap₂ outward (ap₂ min_ℚ (least_same z) (least_same z) ∙ least_same z) (ap₂ max_ℚ (greatest_same z) (greatest_same z) ∙ greatest_same z)
    ∙ same_outward zero_span zero_decimals)

pub product_with_zero : (s : Interval) → product_span s zero_span ≡ Some zero_span
product_with_zero s = four_zeros _ _ _ _ (times_zero (value_of s.lo)) (times_zero (value_of s.lo)) (times_zero (value_of s.hi)) (times_zero (value_of s.hi))

pub product_from_zero : (s : Interval) → product_span zero_span s ≡ Some zero_span
product_from_zero s = four_zeros _ _ _ _ (zero_times (value_of s.lo)) (zero_times (value_of s.hi)) (zero_times (value_of s.lo)) (zero_times (value_of s.hi))
