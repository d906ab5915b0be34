-- Lower ends that are not negative.
use Rattle.std.specs.Prelude.{◌≡◌, Bool, true, false, cond, Option, None, Some, IfSome, IfOk, Result, Ok, Err, pos, refl}
use Rattle.std.specs.Option.{ok_or}
use Rattle.std.proofs.Common.{sym, subst, arith}
use Rattle.exact_fraction.specs.Number.{ℚ, of_ℤ, ◌≤ℚ◌}
use Rattle.exact_fraction.specs.NumberLaws.{≤ℚ_refl, ≤ℚ_trans}
use Rattle.exact_fraction.proofs.Extremes.{≤-min}
use Rattle.exact_fraction.proofs.OrderLaws.{≤ℚ_left, *ℚ-not_negative, square-not_negative}
use Rattle.decimal18.specs.Bound.{Bound, value_of}
use Rattle.decimal18.specs.Down.{IsDown, down, up}
use Rattle.decimal18.proofs.Answered.{down_is}
use Rattle.decimal18.proofs.Values.{value-whole}
use Rattle.fixed_interval.specs.Interval.{Interval, IsOrdered, from_ends, outward}
use Rattle.fixed_interval.specs.Rules.{zero_bound, holds_zero, product_span, square_span}
use Rattle.fixed_interval.specs.declared.faults.Overflow.{Overflow}
use Rattle.fixed_interval.proofs.Sums.{there}

down_not_negative : (x : ℚ) (b : Bound) → IsDown x b → of_ℤ (pos 0) ≤ℚ x → of_ℤ (pos 0) ≤ℚ value_of b
down_not_negative x b d h =
    ≤ℚ_left _ _ _ (sym (value-whole (pos 0)))
    (d.greatest zero_bound (record { digits = omega arith; most = omega arith }) (≤ℚ_left _ _ _ (value-whole (pos 0)) h))

ends_not_negative : (x : ℚ) (lo hi : Option Bound) (s : Interval) → IfSome lo (IsDown x) → from_ends lo hi ≡ Some s → of_ℤ (pos 0) ≤ℚ x
    → of_ℤ (pos 0) ≤ℚ value_of s.lo
ends_not_negative x None hi s d e h = cc
ends_not_negative x (Some lo) None s d e h = cc
ends_not_negative x (Some lo) (Some hi) s d e h =
    let same : record { lo = lo; hi = hi } ≡ s = cc in
    subst (λ t. of_ℤ (pos 0) ≤ℚ value_of t.lo) same (down_not_negative x lo d h)

outward_not_negative : (x y : ℚ) (s : Interval) → outward x y ≡ Some s → of_ℤ (pos 0) ≤ℚ x → of_ℤ (pos 0) ≤ℚ value_of s.lo
unfolding outward
outward_not_negative x y s e h = ends_not_negative x (down x) (up y) s (down_is x (down x) refl) e h

zero_or : (t : Bool) (x : ℚ) → of_ℤ (pos 0) ≤ℚ x → of_ℤ (pos 0) ≤ℚ cond t (of_ℤ (pos 0)) x
zero_or true x h = ≤ℚ_refl _
zero_or false x h = h

square_not_negative : (k s : Interval) → square_span k ≡ Some s → of_ℤ (pos 0) ≤ℚ value_of s.lo
square_not_negative k s e =
    outward_not_negative _ _ s e (zero_or (holds_zero k) _ (≤-min _ _ _ (square-not_negative (value_of k.lo)) (square-not_negative (value_of k.hi))))

product_not_negative : (s v p : Interval) → product_span s v ≡ Some p → of_ℤ (pos 0) ≤ℚ value_of s.lo → of_ℤ (pos 0) ≤ℚ value_of v.lo → IsOrdered s
    → IsOrdered v → of_ℤ (pos 0) ≤ℚ value_of p.lo
product_not_negative s v p e h k o q =
    let high : of_ℤ (pos 0) ≤ℚ value_of s.hi = ≤ℚ_trans _ _ _ h o.ordered in
    let top : of_ℤ (pos 0) ≤ℚ value_of v.hi = ≤ℚ_trans _ _ _ k q.ordered in
    outward_not_negative _ _ p e
    (≤-min _ _ _ (≤-min _ _ _ (*ℚ-not_negative _ _ h k) (*ℚ-not_negative _ _ h top))
    (≤-min _ _ _ (*ℚ-not_negative _ _ high k) (*ℚ-not_negative _ _ high top)))

-- the span of k² v
pub scaled_not_negative : (k v s : Interval) (r : Result Interval Overflow) (fault : Overflow) → square_span k ≡ Some s
    → r ≡ ok_or (product_span s v) fault → of_ℤ (pos 0) ≤ℚ value_of v.lo → IsOrdered s → IsOrdered v → IfOk r (λ p. of_ℤ (pos 0) ≤ℚ value_of p.lo)
scaled_not_negative k v s (Err x) fault e f h o q = tt
scaled_not_negative k v s (Ok p) fault e f h o q =
    product_not_negative s v p (there (product_span s v) p fault f) (square_not_negative k s e) h o q
