-- The span of the shares of a part in a whole.
use Rattle.std.specs.Prelude.{◌≡◌, Bool, true, false, cond, Option, Some, IsSome, pos, refl, [], ◌∷◌}
use Rattle.std.proofs.Common.{sym, ◌∙◌, subst, arith}
use Rattle.std.proofs.lemmas.Int.{ints}
use Rattle.std.proofs.lemmas.Bool.{true≢false, cond-true, cond-false}
use Rattle.exact_fraction.specs.Number.{ℚ, of_ℤ, ◌/ℚ◌, inv_ℚ, is_zero_ℚ, is_at_most_ℚ, ◌≤ℚ◌}
use Rattle.exact_fraction.specs.NumberLaws.{≤ℚ_refl, ≤ℚ_trans, ≤ℚ_same, ≤ℚ-turned, of_ℤ-≤ℚ}
use Rattle.exact_fraction.proofs.Quotients.{≢-is_zero_ℚ}
use Rattle.exact_fraction.proofs.OrderLaws.{≤ℚ_right, *ℚ-not_negative, *ℚ-≤ℚ_both, inv_ℚ-not_negative, /ℚ-≤ℚ_iff}
use Rattle.exact_fraction.proofs.Ring.{◌:*◌, Whole, x0, ring}
use Rattle.decimal18.specs.Bound.{Bound, value_of}
use Rattle.decimal18.specs.Down.{down, up, IsInRange}
use Rattle.fixed_interval.specs.Interval.{Interval, Encloses, IsOrdered, from_ends}
use Rattle.fixed_interval.specs.Rules.{greatest_share, share_span, one_bound}
use Rattle.decimal18.proofs.Values.{value-whole}
use Rattle.fixed_interval.proofs.Enclosures.{outward_encloses, outward-ends, outward_there}
use Rattle.fixed_interval.proofs.Squares.{one_up}
use Rattle.fixed_interval.proofs.Inclusions.{zero_ℚ, inverse_falls}

abbrev pub one_ℚ : ℚ
one_ℚ = of_ℤ (pos 1)

-- x is above 0
abbrev pub IsAbove : ℚ → Type 0
IsAbove x = ¬ (x ≤ℚ zero_ℚ)

pub above_not_zero : (x : ℚ) → IsAbove x → is_zero_ℚ x ≡ false
above_not_zero x h = ≢-is_zero_ℚ x (λ e. h (≤ℚ_same x zero_ℚ e))

pub above_low : (x : ℚ) → IsAbove x → zero_ℚ ≤ℚ x
above_low x h = by (is_at_most_ℚ x zero_ℚ) refl where
  by : (t : Bool) → is_at_most_ℚ x zero_ℚ ≡ t → zero_ℚ ≤ℚ x
  by true e = absurd (h (record { holds = e }))
  by false e = ≤ℚ-turned x zero_ℚ e

above_along : (x y : ℚ) → IsAbove x → x ≤ℚ y → IsAbove y
above_along x y h k z = h (≤ℚ_trans _ _ _ k z)

inverse_low : (x : ℚ) → IsAbove x → zero_ℚ ≤ℚ inv_ℚ x
inverse_low x h = inv_ℚ-not_negative x (above_low x h) (above_not_zero x h)

-- a lesser part in a greater whole is a lesser share
share_rises : (q p r w : ℚ) → zero_ℚ ≤ℚ q → q ≤ℚ p → IsAbove r → r ≤ℚ w → q /ℚ w ≤ℚ p /ℚ r
share_rises q p r w q0 h r0 k =
    let w0 : IsAbove w = above_along r w r0 k in
    let fall : inv_ℚ w ≤ℚ inv_ℚ r =
    inverse_falls r w (above_not_zero r r0) (above_not_zero w w0) (*ℚ-not_negative r w (above_low r r0) (above_low w w0)) k in
    *ℚ-≤ℚ_both q p (inv_ℚ w) (inv_ℚ r) q0 h (inverse_low w w0) fall

share_not_negative : (q r : ℚ) → zero_ℚ ≤ℚ q → IsAbove r → zero_ℚ ≤ℚ q /ℚ r
share_not_negative q r q0 r0 = *ℚ-not_negative q (inv_ℚ r) q0 (inverse_low r r0)

share_at_most_one : (q r : ℚ) → IsAbove r → q ≤ℚ r → q /ℚ r ≤ℚ one_ℚ
share_at_most_one q r r0 h =
    (/ℚ-≤ℚ_iff q one_ℚ r (above_low r r0) (above_not_zero r r0)).1 (≤ℚ_right _ _ _ (ring (r ∷ []) x0 (Whole (pos 1) :* x0) refl) h)

-- what a part and a whole have to be
pub record IsPart (part whole : Interval) : Type 0 where
  pub not_negative : zero_ℚ ≤ℚ value_of part.lo
  pub within : value_of part.lo ≤ℚ value_of whole.hi
  pub positive : IsAbove (value_of whole.hi)
  pub part_ordered : value_of part.lo ≤ℚ value_of part.hi

pub is_part : (part whole : Interval) → zero_ℚ ≤ℚ value_of part.lo → value_of part.lo ≤ℚ value_of whole.hi → IsAbove (value_of whole.hi)
    → IsOrdered part → IsPart part whole
is_part part whole h k j o = record { not_negative = h; within = k; positive = j; part_ordered = o.ordered }

above_part : (part whole : Interval) → zero_ℚ ≤ℚ value_of part.hi → is_at_most_ℚ (value_of whole.lo) (value_of part.hi) ≡ false
    → IsAbove (value_of whole.lo)
above_part part whole h e z =
    let k : value_of whole.lo ≤ℚ value_of part.hi = ≤ℚ_trans _ _ _ z h in
    true≢false (sym k.holds ∙ e)

pub whole_not_zero : (part whole : Interval) → zero_ℚ ≤ℚ value_of part.hi → is_at_most_ℚ (value_of whole.lo) (value_of part.hi) ≡ false
    → is_zero_ℚ (value_of whole.lo) ≡ false
whole_not_zero part whole h e = above_not_zero _ (above_part part whole h e)

whole_above : (part whole : Interval) → IsPart part whole → is_at_most_ℚ (value_of whole.lo) (value_of part.hi) ≡ false → IsAbove (value_of whole.lo)
whole_above part whole h e = above_part part whole (≤ℚ_trans _ _ _ h.not_negative h.part_ordered) e

-- the greatest share by the test
pub greatest_is_one : (part whole : Interval) → is_at_most_ℚ (value_of whole.lo) (value_of part.hi) ≡ true → Some one_bound ≡ up (greatest_share part whole)
unfolding greatest_share
greatest_is_one part whole e = rw (cond-true _ _ _ e, ← value-whole (pos 1)) (sym one_up)

pub greatest_is_less : (part whole : Interval) → is_at_most_ℚ (value_of whole.lo) (value_of part.hi) ≡ false
    → value_of part.hi /ℚ value_of whole.lo ≡ greatest_share part whole
unfolding greatest_share
greatest_is_less part whole e = sym (cond-false _ _ _ e)

-- each share is at most the greatest
share_below : (part whole : Interval) → IsPart part whole → (q r : ℚ) → Encloses part q → Encloses whole r → zero_ℚ ≤ℚ q → q ≤ℚ r → IsAbove r
    → (t : Bool) → is_at_most_ℚ (value_of whole.lo) (value_of part.hi) ≡ t
    → q /ℚ r ≤ℚ cond t one_ℚ (value_of part.hi /ℚ value_of whole.lo)
share_below part whole h q r j k q0 below r0 true e = share_at_most_one q r r0 below
share_below part whole h q r j k q0 below r0 false e = share_rises q _ _ r q0 j.high (whole_above part whole h e) k.low

least_share_at_most : (part whole : Interval) → IsPart part whole → (t : Bool) → is_at_most_ℚ (value_of whole.lo) (value_of part.hi) ≡ t
    → value_of whole.lo ≤ℚ value_of whole.hi
    → value_of part.lo /ℚ value_of whole.hi ≤ℚ cond t one_ℚ (value_of part.hi /ℚ value_of whole.lo)
least_share_at_most part whole h true e o = share_at_most_one _ _ h.positive h.within
least_share_at_most part whole h false e o = share_rises _ _ _ _ h.not_negative h.part_ordered (whole_above part whole h e) o

pub shares_in_order : (part whole : Interval) → IsPart part whole → IsOrdered whole
    → value_of part.lo /ℚ value_of whole.hi ≤ℚ greatest_share part whole
unfolding greatest_share
shares_in_order part whole h o = least_share_at_most part whole h _ refl o.ordered

greatest_at_most_one : (part whole : Interval) → IsPart part whole → (t : Bool) → is_at_most_ℚ (value_of whole.lo) (value_of part.hi) ≡ t
    → cond t one_ℚ (value_of part.hi /ℚ value_of whole.lo) ≤ℚ one_ℚ
greatest_at_most_one part whole h true e = ≤ℚ_refl _
greatest_at_most_one part whole h false e = share_at_most_one _ _ (whole_above part whole h e) (≤ℚ-turned _ _ e)

greatest_below_one : (part whole : Interval) → IsPart part whole → greatest_share part whole ≤ℚ one_ℚ
unfolding greatest_share
greatest_below_one part whole h = greatest_at_most_one part whole h _ refl

from_zero_to_one : (x : ℚ) → zero_ℚ ≤ℚ x → x ≤ℚ one_ℚ → IsInRange x
from_zero_to_one x h k = record {
  low = ≤ℚ_trans _ _ _ (of_ℤ-≤ℚ _ _ (omega (arith, ints))) h;
  high = ≤ℚ_trans _ _ _ k (of_ℤ-≤ℚ _ _ (omega (arith, ints)));
}

pub share_is_there : (part whole : Interval) → IsPart part whole → IsOrdered whole → (lo hi : Option Bound)
    → lo ≡ down (value_of part.lo /ℚ value_of whole.hi) → hi ≡ up (greatest_share part whole) → IsSome (from_ends lo hi)
share_is_there part whole h o lo hi e f =
    let least_low : zero_ℚ ≤ℚ value_of part.lo /ℚ value_of whole.hi = share_not_negative _ _ h.not_negative h.positive in
    let order = shares_in_order part whole h o in
    let most = greatest_below_one part whole h in
    subst IsSome (sym (outward-ends _ _ lo hi e f))
    (outward_there _ _ (from_zero_to_one _ least_low (≤ℚ_trans _ _ _ order most)) (from_zero_to_one _ (≤ℚ_trans _ _ _ least_low order) most))

pub share_span_encloses : (part whole s : Interval) → IsPart part whole → share_span part whole ≡ Some s
    → (q r : ℚ) → Encloses part q → Encloses whole r → zero_ℚ ≤ℚ q → q ≤ℚ r → IsAbove r → Encloses s (q /ℚ r)
unfolding greatest_share
share_span_encloses part whole s h e q r j k q0 below r0 =
    outward_encloses _ _ s e (q /ℚ r) (share_rises _ _ _ _ h.not_negative j.low r0 k.high)
    (share_below part whole h q r j k q0 below r0 _ refl)
