-- An operand in which the name does not occur brings nothing to the derivative: what the rules make for it leaves
-- what the other operand brings as it is.
use Rattle.std.specs.Prelude.{◌≡◌, ℕ, zero, suc, ◌^◌, ◌<◌, ℤ, pos, negsuc, neg_ℤ, unsigned_abs, Bool, true, false, ◌||◌, cond, if◌then◌else◌, List, [], ◌∷◌, bytes_eq, Option, None, Some, IfSome, Err, is_some, refl}
use Rattle.std.specs.Option.{ok_or}
use Rattle.std.proofs.Common.{arith, sym, ◌∙◌, ap, ap₂}
use Rattle.exact_fraction.specs.Number.{ℚ, ◌+ℚ◌, ◌*ℚ◌, neg_ℚ, min_ℚ, max_ℚ}
use Rattle.exact_fraction.proofs.Ring.{ring, Whole, ◌:+◌, ◌:-◌, ◌:*◌, x0}
use Rattle.exact_fraction.proofs.Extremes.{min_cases, max_cases}
use Rattle.decimal18.specs.Bound.{Bound, scaled, value_of, IsBound, IsDecimal}
use Rattle.decimal18.specs.Down.{negated, IsInRange}
use Rattle.decimal18.proofs.CutOff.{below_top, above_bottom}
use Rattle.decimal18.proofs.Rounding.{down_some}
use Rattle.decimal18.proofs.Upward.{up_some, IsCanonical-negated}
use Rattle.decimal18.proofs.Values.{value-whole}
use Rattle.fixed_interval.specs.Interval.{Interval, outward, point_span, sum_span}
use Rattle.fixed_interval.specs.Rules.{zero_bound, one_bound, holds_zero, corners_span, difference_span, product_span, quotient_span, quotient, negative_span}
use Rattle.fixed_interval.specs.Powers.{then_span}
use Rattle.fixed_interval.specs.Sums.{zero_span, both}
use Rattle.fixed_interval.specs.declared.faults.ArithFault.TheVariants.{ZeroDivisor, Overflow}
use Rattle.fixed_interval.proofs.Enclosures.{outward_ends}
use Rattle.fixed_interval.proofs.Hulls.{outward_some}
use Rattle.fixed_interval.proofs.Squares.{down_of_bound, up_of_bound}
use Rattle.fixed_interval.proofs.PointZero.{HasDecimals, outward_decimals, negated_decimal, zero_decimals, one_decimals, sum_with_zero, sum_from_zero, difference_with_zero, product_with_zero, product_from_zero}
use Rattle.formula_ast.specs.Trees.{Tree, Number, Variable, Opposite, Joined, Raised}
use Rattle.formula_ast.specs.declared.token.Sign.{Sign}
use Rattle.formula_ast.specs.declared.token.Sign.TheVariants.{Plus, Minus, Times, Over}
use Rattle.formula_box.specs.Slopes.{occurs, where_used, divided, quotient_there, joined_slope, power_slope, rising_factor, falling_factor, slope_of}
use Rattle.formula_box.specs.Parts.{short_slope}

-- ---- the ends of derivatives are decimal numbers
made : (o : Option Interval) → ((s : Interval) → o ≡ Some s → HasDecimals s) → IfSome o HasDecimals
made None h = tt
made (Some s) h = h s refl

both_made : (o p : Option Interval) (f : Interval → Interval → Option Interval)
    → ((a b s : Interval) → f a b ≡ Some s → HasDecimals s) → IfSome (both o p f) HasDecimals
both_made None p f h = tt
both_made (Some a) None f h = tt
both_made (Some a) (Some b) f h = made (f a b) (h a b)

divided_made : (t : Bool) (o : Option Interval) → ((s : Interval) → o ≡ Some s → HasDecimals s) → (s : Interval)
    → divided (if t then Err ZeroDivisor else ok_or o Overflow) ≡ Some s → HasDecimals s
divided_made true o h s e = absurd (cc)
divided_made false None h s e = absurd (cc)
divided_made false (Some t) h s e = h s e

quotient_made : (a b s : Interval) → quotient_there a b ≡ Some s → HasDecimals s
unfolding quotient
quotient_made a b s e = divided_made (holds_zero b) (quotient_span a b) (λ t f. outward_decimals _ _ t f) s e

joined_made : (s : Sign) (v w x d e : Option Interval) → IfSome (joined_slope s v w x d e) HasDecimals
joined_made Plus v w x d e = both_made d e sum_span (λ a b s f. outward_decimals _ _ s f)
joined_made Minus v w x d e = both_made d e difference_span (λ a b s f. outward_decimals _ _ s f)
joined_made Times v w x d e = both_made _ _ sum_span (λ a b s f. outward_decimals _ _ s f)
joined_made Over v w x d e = both_made _ w quotient_there quotient_made

power_made : (k : ℤ) (v x d : Option Interval) → IfSome d HasDecimals → IfSome (power_slope k v x d) HasDecimals
power_made (pos zero) v x d h = h
power_made (pos (suc zero)) v x d h = h
power_made (pos (suc (suc k))) v x d h = both_made (rising_factor (suc (suc k)) v) d product_span (λ a b s f. outward_decimals _ _ s f)
power_made (negsuc k) v x d h = both_made (falling_factor (negsuc k) v x) d product_span (λ a b s f. outward_decimals _ _ s f)

used_made : (t : Bool) (o : Option Interval) → IfSome o HasDecimals → IfSome (where_used t o) HasDecimals
used_made true o h = h
used_made false o h = zero_decimals

name_made : (t : Bool) → HasDecimals (cond t (point_span one_bound) zero_span)
name_made true = one_decimals
name_made false = zero_decimals

opposite_made : (o : Option Interval) → IfSome o HasDecimals → IfSome (then_span o (λ d. Some (negative_span d))) HasDecimals
opposite_made None h = tt
opposite_made (Some s) h = record { lo = negated_decimal s.hi h.hi; hi = negated_decimal s.lo h.lo }

pub slope_made : (given : List ℕ → Option Interval) (n : List ℕ) (f : Tree) → IfSome (slope_of given n f) HasDecimals
slope_made given n (Number q) = zero_decimals
slope_made given n (Variable m) = name_made (bytes_eq n m)
slope_made given n (Opposite a) = used_made (occurs n a) _ (opposite_made _ (slope_made given n a))
slope_made given n (Joined s a b) = used_made (occurs n a || occurs n b) _ (joined_made s _ _ _ _ _)
slope_made given n (Raised a e) = used_made (occurs n a) _ (power_made e _ _ _ (slope_made given n a))

-- ---- the rules with an operand in which the name does not occur
pub absent_slope : (given : List ℕ → Option Interval) (n : List ℕ) (f : Tree) → occurs n f ≡ false → slope_of given n f ≡ Some zero_span
absent_slope given n (Number q) h = refl
absent_slope given n (Variable m) h = rw h refl
absent_slope given n (Opposite a) h = rw h refl
absent_slope given n (Joined s a b) h = rw h refl
absent_slope given n (Raised a e) h = rw h refl

with_zero : (o : Option Interval) (f : Interval → Interval → Option Interval) → ((s : Interval) → HasDecimals s → f s zero_span ≡ Some s)
    → IfSome o HasDecimals → both o (Some zero_span) f ≡ o
with_zero None f h k = refl
with_zero (Some s) f h k = h s k

from_zero : (o : Option Interval) (f : Interval → Interval → Option Interval) → ((s : Interval) → HasDecimals s → f zero_span s ≡ Some s)
    → IfSome o HasDecimals → both (Some zero_span) o f ≡ o
from_zero None f h k = refl
from_zero (Some s) f h k = h s k

left_alone : (s : Sign) (v w x d : Option Interval) → is_some v ≡ true → is_some x ≡ true → IfSome d HasDecimals
    → short_slope s true false v w x d (Some zero_span) ≡ joined_slope s v w x d (Some zero_span)
left_alone Plus v w x d hv hx k = sym (with_zero d sum_span sum_with_zero k)
left_alone Minus v w x d hv hx k = sym (with_zero d difference_span difference_with_zero k)
left_alone Times None w x d hv hx k = absurd (cc)
left_alone Times (Some v) w x d hv hx k =
    rw (product_with_zero v) (sym (with_zero (both d w product_span) sum_span sum_with_zero
    (both_made d w product_span (λ a b s f. outward_decimals _ _ s f))))
left_alone Over v w None d hv hx k = absurd (cc)
left_alone Over v w (Some x) d hv hx k =
    rw (product_with_zero x) (ap (λ o. both o w quotient_there) (sym (with_zero d difference_span difference_with_zero k)))

right_alone : (s : Sign) (v w x e : Option Interval) → is_some w ≡ true → IfSome e HasDecimals
    → short_slope s false true v w x (Some zero_span) e ≡ joined_slope s v w x (Some zero_span) e
right_alone Plus v w x e hw k = sym (from_zero e sum_span sum_from_zero k)
right_alone Minus v w x e hw k = refl
right_alone Times v None x e hw k = absurd (cc)
right_alone Times v (Some w) x e hw k =
    rw (product_from_zero w) (sym (from_zero (both v e product_span) sum_span sum_from_zero
    (both_made v e product_span (λ a b s f. outward_decimals _ _ s f))))
right_alone Over v w x e hw k = refl

neither : (s : Sign) (v w x : Option Interval) → short_slope s false false v w x (Some zero_span) (Some zero_span) ≡ Some zero_span
neither Plus v w x = refl
neither Minus v w x = refl
neither Times v w x = refl
neither Over v w x = refl

both_used : (s : Sign) (v w x d e : Option Interval) → short_slope s true true v w x d e ≡ joined_slope s v w x d e
both_used Plus v w x d e = refl
both_used Minus v w x d e = refl
both_used Times v w x d e = refl
both_used Over v w x d e = refl

-- the operands have values, the whole has one, and an operand without the name has the derivative 0
short_is : (s : Sign) (left right : Bool) (v w x d e : Option Interval) → is_some v ≡ true → is_some w ≡ true → is_some x ≡ true
    → IfSome d HasDecimals → IfSome e HasDecimals → (left ≡ false → d ≡ Some zero_span) → (right ≡ false → e ≡ Some zero_span)
    → short_slope s left right v w x d e ≡ where_used (left || right) (joined_slope s v w x d e)
short_is s true true v w x d e hv hw hx hd he nd ne = both_used s v w x d e
short_is s true false v w x d e hv hw hx hd he nd ne = rw (ne refl) (left_alone s v w x d hv hx hd)
short_is s false true v w x d e hv hw hx hd he nd ne = rw (nd refl) (right_alone s v w x e hw he)
short_is s false false v w x d e hv hw hx hd he nd ne = rw (nd refl, ne refl) (neither s v w x)

pub short_slope_is : (given : List ℕ → Option Interval) (n : List ℕ) (s : Sign) (a b : Tree) (v w x : Option Interval)
    → is_some v ≡ true → is_some w ≡ true → is_some x ≡ true
    → short_slope s (occurs n a) (occurs n b) v w x (slope_of given n a) (slope_of given n b)
    ≡ where_used (occurs n a || occurs n b) (joined_slope s v w x (slope_of given n a) (slope_of given n b))
short_slope_is given n s a b v w x hv hw hx =
    short_is s (occurs n a) (occurs n b) v w x _ _ hv hw hx (slope_made given n a) (slope_made given n b)
    (absent_slope given n a) (absent_slope given n b)
