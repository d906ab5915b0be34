-- What the spans settle, as functions that compute: what is settled is looked for among the finitely many numbers that it
-- can be. What a rounded number is stands in the exact law (JCGM 100:2008, 7.2.6 and 5.2.2).
use Rattle.std.specs.Prelude.{ℕ, ◌+◌, ◌-◌, ◌*◌, ◌==◌, ◌&&◌, ◌||◌, not, Bool, false, if◌then◌else◌, Option, None, Some, unwrap_or, Result, Ok, Err, List, ◌∷◌, map, filter, ℤ, pos, negsuc, neg_ℤ, ◌+ℤ◌}
use Rattle.std.specs.List.{find, flat_map, range_with_len}
use Rattle.std.specs.Option.{option_map_or}
use Rattle.exact_fraction.specs.Number.{ℚ, of_ℤ, ◌*ℚ◌, is_zero_ℚ, is_at_most_ℚ}
use Rattle.exact_law.specs.Rounding.{least_root, scaled_square}
use Rattle.decimal18.specs.Bound.{value_of}
use Rattle.fixed_interval.specs.Interval.{Interval}
use Rattle.fixed_interval.specs.declared.faults.Overflow.{Overflow}
use Rattle.round_out.specs.Correlations.{coefficient_square}
use Rattle.round_out.specs.declared.coefficient.CorrSaid.{CorrSaid}
use Rattle.round_out.specs.declared.coefficient.CorrSaid.TheVariants.{None as NoCoefficient, Unsettled as UnsettledCoefficient, Hundredths}
use Rattle.round_out.specs.declared.digits.Rounded.{Rounded}
use Rattle.round_out.specs.declared.digits.Rounded.TheVariants.{Zero, Digits, Unsettled}

-- ---- the two digits of the root of a variance
-- the root of v, in twentieths of 10^e, is at least `least` and below `end`
abbrev pub has_root : ℚ → ℕ → ℕ → ℤ → Bool
has_root v least end e =
    is_at_most_ℚ (scaled_square least e) (of_ℤ (pos 400) *ℚ v) && not (is_at_most_ℚ (scaled_square end e) (of_ℤ (pos 400) *ℚ v))

-- the root of v is rounded to the two digits m at place e
abbrev pub has_two_digits : ℚ → ℕ → ℤ → Bool
has_two_digits v m e = has_root v (least_root m) (20 * m + 10) e

-- the roots of both ends have these digits
abbrev pub have_digits : Interval → Rounded → Bool
have_digits v Zero = is_zero_ℚ (value_of v.lo) && is_zero_ℚ (value_of v.hi)
have_digits v (Digits m e) = has_two_digits (value_of v.lo) m e && has_two_digits (value_of v.hi) m e
have_digits v Unsettled = false

-- the places at which the root of a bound can have its second digit, from 10^-19 to 10^8
abbrev pub places : List ℤ
places = map (λ n. pos n +ℤ negsuc 18) (range_with_len 0 28)

-- 0, and at the place at which the root of v has two digits, those from 10 to 99
abbrev pub candidates : ℚ → List Rounded
candidates v = Zero ∷ flat_map (λ e. map (λ m. Digits m e) (range_with_len 10 90)) (filter (has_root v 199 1990) places)

-- the digits of both ends of a span of variances
unfoldable pub digits_of_span : Interval → Rounded
digits_of_span v = unwrap_or (find (have_digits v) (candidates (value_of v.lo))) Unsettled

-- ---- the correlation coefficient
-- the root of f is rounded to m hundredths
abbrev pub has_hundredths : ℚ → ℕ → Bool
has_hundredths f m =
    is_at_most_ℚ (of_ℤ (pos ((2 * m - 1) * (2 * m - 1)))) (of_ℤ (pos 40000) *ℚ f)
    && not (is_at_most_ℚ (of_ℤ (pos ((2 * m + 1) * (2 * m + 1)))) (of_ℤ (pos 40000) *ℚ f))

-- the roots of both ends have these hundredths
abbrev pub have_hundredths : Interval → ℕ → Bool
have_hundredths f m = has_hundredths (value_of f.lo) m && has_hundredths (value_of f.hi) m

-- m hundredths with the sign of the covariance c, where its span settles the sign or there is none
abbrev pub with_sign : Interval → ℕ → CorrSaid
with_sign c m =
    if m == 0 || is_at_most_ℚ (of_ℤ (pos 0)) (value_of c.lo) then Hundredths (pos m)
    else (if is_at_most_ℚ (value_of c.hi) (of_ℤ (pos 0)) then Hundredths (neg_ℤ (pos m)) else UnsettledCoefficient)

-- what a covariance and the span of the square of the coefficient say
abbrev pub said_of : Interval → Option Interval → Result CorrSaid Overflow
said_of c None = Err (record {})
said_of c (Some f) = Ok (option_map_or (with_sign c) (find (have_hundredths f) (range_with_len 0 101)) UnsettledCoefficient)

-- both ends are 0
abbrev pub is_zero_span : Interval → Bool
is_zero_span v = is_zero_ℚ (value_of v.lo) && is_zero_ℚ (value_of v.hi)

-- the numbers of v are above 0
abbrev pub is_positive_span : Interval → Bool
is_positive_span v = not (is_at_most_ℚ (value_of v.lo) (of_ℤ (pos 0)))

-- what a covariance c and variances v and w say
unfoldable pub correlation_of : Interval → Interval → Interval → Result CorrSaid Overflow
correlation_of c v w =
    if is_zero_span v || is_zero_span w then Ok NoCoefficient
    else (if is_positive_span v && is_positive_span w then said_of c (coefficient_square c v w) else Ok UnsettledCoefficient)
