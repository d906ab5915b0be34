-- Rounded numbers of spans (JCGM 100:2008, 7.2.6). What a rounded number is stands in the exact law; that a span settles
-- the ones that both of its ends have is this project's own rule.
use Rattle.std.specs.Prelude.{Option, None, Some, ℤ, pos, negsuc, ◌≤ℤ◌, if◌then◌else◌}
use Rattle.std.specs.Ordering.{int_eq}
use Rattle.decimal18.specs.Bound.{value_of}
use Rattle.fixed_interval.specs.Interval.{Interval}
use Rattle.exact_law.specs.Rounding.{Digits as ExactDigits, Zero as ExactZero, Two, AreDigitsOf, at_place}
use Rattle.round_out.specs.declared.digits.Rounded.{Rounded}
use Rattle.round_out.specs.declared.digits.Rounded.TheVariants.{Zero, Digits, Unsettled}

-- ---- the two digits of the root of a variance
-- the digits that are stated
abbrev pub stated_digits : Rounded → Option ExactDigits
stated_digits Zero = Some ExactZero
stated_digits (Digits m e) = Some (Two m e)
stated_digits Unsettled = None

-- the root of each end of a span of variances has these digits
pub record HaveDigits (v : Interval) (d : ExactDigits) : Type 0 where
  pub low : AreDigitsOf (value_of v.lo) d
  pub high : AreDigitsOf (value_of v.hi) d

-- the digits of both ends, and none where they have none in common
abbrev pub AreSettledDigits : Interval → Option ExactDigits → Type 0
AreSettledDigits v (Some d) = HaveDigits v d
AreSettledDigits v None = (d : ExactDigits) → ¬ HaveDigits v d

-- their place is one that the root of a bound can have, from 10^-19 to 10^8
abbrev pub IsPlaced : Rounded → Type 0
IsPlaced Zero = Unit {0}
IsPlaced (Digits m e) = (negsuc 18 ≤ℤ e) × (e ≤ℤ pos 8)
IsPlaced Unsettled = Unit {0}

-- ---- an estimate at a place
-- the number of units of the place to which both ends are rounded, where that is one
abbrev pub settled_estimate : Interval → ℤ → Option ℤ
settled_estimate y e =
    if int_eq (at_place (value_of y.lo) e) (at_place (value_of y.hi) e) then Some (at_place (value_of y.lo) e) else None
