-- Spans of variances have no lower end below 0.
use Rattle.std.specs.Prelude.{◌≡◌, Bool, true, false, if◌then◌else◌, List, [], ◌∷◌, map, filter, Option, None, Some, IfSome, Result, IfOk, pos, refl}
use Rattle.std.specs.Option.{ok_or, option_map}
use Rattle.std.proofs.Common.{sym, rules}
use Rattle.exact_fraction.specs.Number.{ℚ, of_ℤ, ◌≤ℚ◌}
use Rattle.exact_fraction.specs.NumberLaws.{≤ℚ_same}
use Rattle.exact_fraction.proofs.OrderLaws.{≤ℚ_left, ≤ℚ_right, +ℚ-not_negative}
use Rattle.exact_fraction.proofs.Extremes.{max-≥_right}
use Rattle.decimal18.specs.Bound.{value_of, IsBound}
use Rattle.decimal18.proofs.Rounding.{down_some}
use Rattle.decimal18.proofs.Values.{value-whole}
use Rattle.fixed_interval.specs.Interval.{Interval, outward, sum_span}
use Rattle.fixed_interval.specs.Rules.{zero_bound, floored_span}
use Rattle.fixed_interval.specs.Sums.{both, sum_on, sum_of, zero_span}
use Rattle.fixed_interval.specs.declared.faults.Overflow.{Overflow}
use Rattle.fixed_interval.proofs.Enclosures.{outward_ends}
use Rattle.fixed_interval.proofs.Least.{value-greater}
use Rattle.covariance.specs.Gradients.{Spans}
use Rattle.covariance.specs.Groups.{Group, members, placed}
use Rattle.covariance.specs.Variances.{terms, at_key, at_places, group_variance_span, meets, combined_variance_span}

-- no number of the span is below 0
abbrev pub FromZero : Interval → Type 0
FromZero s = of_ℤ (pos 0) ≤ℚ value_of s.lo

zero-from_zero : FromZero zero_span
zero-from_zero = ≤ℚ_same _ _ (sym (value-whole (pos 0)))

zero_in_form : IsBound zero_bound
zero_in_form = record { digits = search rules; most = search rules }

-- a bound that is the greatest not above a number that is not negative
outward-from_zero : (x y : ℚ) (s : Interval) → outward x y ≡ Some s → of_ℤ (pos 0) ≤ℚ x → FromZero s
outward-from_zero x y s e h =
    ≤ℚ_left _ _ _ (sym (value-whole (pos 0)))
    ((down_some x s.lo (outward_ends x y s e).lo).1.greatest zero_bound zero_in_form (≤ℚ_left _ _ _ (value-whole (pos 0)) h))

floored-from_zero : (s : Interval) → FromZero (floored_span s zero_bound)
floored-from_zero s =
    ≤ℚ_left _ _ _ (sym (value-whole (pos 0))) (≤ℚ_right _ _ _ (sym (value-greater s.lo zero_bound)) (max-≥_right (value_of s.lo) (value_of zero_bound)))

pub group_variance-from_zero : {K : Type 0} (g : Group K) (y : Spans K) → IfSome (group_variance_span y g) FromZero
unfolding group_variance_span
group_variance-from_zero g y = by (sum_of (terms (at_key y) (at_places g) (placed 0 (members g)))) where
  by : (o : Option Interval) → IfSome (option_map (λ s. floored_span s zero_bound) o) FromZero
  by None = tt
  by (Some s) = floored-from_zero s

-- ---- sums
abbrev AllFromZero : List (Option Interval) → Type 0
AllFromZero [] = Unit {0}
AllFromZero (o ∷ os) = IfSome o FromZero × AllFromZero os

sum-from_zero : (o p : Option Interval) → IfSome o FromZero → IfSome p FromZero → IfSome (both o p sum_span) FromZero
sum-from_zero None p h k = tt
sum-from_zero (Some a) None h k = tt
sum-from_zero (Some a) (Some b) h k = by (sum_span a b) refl where
  by : (o : Option Interval) → sum_span a b ≡ o → IfSome o FromZero
  by None e = tt
  by (Some s) e = outward-from_zero _ _ s e (+ℚ-not_negative (value_of a.lo) (value_of b.lo) h k)

sum_on-from_zero : (o : Option Interval) (os : List (Option Interval)) → IfSome o FromZero → AllFromZero os → IfSome (sum_on o os) FromZero
sum_on-from_zero o [] h k = h
sum_on-from_zero o (p ∷ os) h k = sum_on-from_zero (both o p sum_span) os (sum-from_zero o p h k.0) k.1

sum_of-from_zero : (os : List (Option Interval)) → AllFromZero os → IfSome (sum_of os) FromZero
sum_of-from_zero [] h = zero-from_zero
sum_of-from_zero (o ∷ os) h = sum_on-from_zero o os h.0 h.1

all_from_zero : {K : Type 0} (counts : Group K → Bool) (y : Spans K) (gs : List (Group K)) → AllFromZero (map (group_variance_span y) (filter counts gs))
all_from_zero counts y [] = tt
all_from_zero counts y (g ∷ gs) = by (counts g) (all_from_zero counts y gs) where
  by : (b : Bool) → AllFromZero (map (group_variance_span y) (filter counts gs))
      → AllFromZero (map (group_variance_span y) (if b then g ∷ filter counts gs else filter counts gs))
  by true rest = (group_variance-from_zero g y, rest)
  by false rest = rest

pub variance-from_zero : {K : Type 0} (groups : List (Group K)) (y : Spans K) → IfSome (combined_variance_span y groups) FromZero
variance-from_zero groups y = sum_of-from_zero (map (group_variance_span y) (filter (meets y) groups)) (all_from_zero (meets y) y groups)

-- ---- spans that are there, and answers
pub some-from_zero : (o : Option Interval) → IfSome o FromZero → (s : Interval) → o ≡ Some s → FromZero s
some-from_zero o h s e = rw e at h

pub answer-from_zero : (o : Option Interval) (r : Result Interval Overflow) → IfSome o FromZero → r ≡ ok_or o (record {}) → IfOk r FromZero
answer-from_zero None r h e = rw e tt
answer-from_zero (Some s) r h e = rw e h
