-- An estimate with its uncertainty, rounded to the place of the uncertainty's second digit (JCGM 100:2008, 7.2.6), where
-- spans settle both.
use Rattle.std.specs.Prelude.{◌≡◌, ℕ, ℤ, pos, negsuc, ◌≤ℤ◌, Bool, if◌then◌else◌, Option, None, Some, Result, Ok, Err}
use Rattle.exact_fraction.specs.Number.{ℚ, of_ℤ, is_at_most_ℚ}
use Rattle.exact_law.specs.Rounding.{IsTwoDigits, at_place}
use Rattle.decimal18.specs.Bound.{value_of}
use Rattle.fixed_interval.specs.Interval.{Interval}
use Rattle.fixed_interval.specs.Rules.{square_span, product_span}
use Rattle.fixed_interval.specs.Sums.{both}
use Rattle.fixed_interval.specs.declared.faults.Overflow.{Overflow}
use Rattle.round_out.specs.Settled.{settled_estimate}
use Rattle.round_out.specs.Searches.{digits_of_span}
use Rattle.round_out.specs.declared.digits.Rounded.{Rounded}
use Rattle.round_out.specs.declared.digits.Rounded.TheVariants.{Zero, Digits, Unsettled as UnsettledDigits}
use Rattle.round_out.specs.declared.outcome.Reported.{Reported}
use Rattle.round_out.specs.declared.outcome.Reported.TheVariants.{Exact, Rounded as RoundedTo, Unsettled}

-- ---- what is reported over spans
-- the span of one number
abbrev pub is_point : Interval → Bool
is_point s = is_at_most_ℚ (value_of s.hi) (value_of s.lo)

-- so many units of the place, if the estimate has settled ones, with an uncertainty of m units
abbrev pub in_units : Option ℤ → ℕ → ℤ → Reported
in_units None m e = Unsettled
in_units (Some c) m e = RoundedTo c m e

-- an estimate with an uncertainty that has these digits
abbrev pub with_digits : Interval → Rounded → Reported
with_digits y Zero = if is_point y then Exact y.lo else Unsettled
with_digits y (Digits m e) = in_units (settled_estimate y e) m e
with_digits y UnsettledDigits = Unsettled

-- an estimate with the root of a variance
unfoldable pub reported_of : Interval → Interval → Reported
reported_of y v = with_digits y (digits_of_span v)

-- the same of a variance that may have left the range of bounds
abbrev pub reported_if : Interval → Option Interval → Result Reported Overflow
reported_if y None = Err (record {})
reported_if y (Some v) = Ok (reported_of y v)

-- an estimate with the expanded uncertainty (6.2.1), k times the root of a variance: the root of k² v
unfoldable pub expanded_of : Interval → Interval → Interval → Result Reported Overflow
expanded_of y v k = if is_point k then reported_if y (both (square_span k) (Some v) product_span) else Ok Unsettled

-- ---- what that means of an exact estimate and an exact variance
-- the variance is 0, and the estimate is b
pub record IsExact (x q b : ℚ) : Type 0 where
  pub variance : q ≡ of_ℤ (pos 0)
  pub estimate : x ≡ b

-- the uncertainty is rounded to m units of 10^e, and the estimate to c of the same units
pub record IsRounded (x q : ℚ) (c : ℤ) (m : ℕ) (e : ℤ) : Type 0 where
  pub digits : IsTwoDigits q m e
  pub estimate : at_place x e ≡ c

-- what is reported is so of the estimate x and the variance q
abbrev pub IsReportOf : ℚ → ℚ → Reported → Type 0
IsReportOf x q (Exact b) = IsExact x q (value_of b)
IsReportOf x q (RoundedTo c m e) = IsRounded x q c m e
IsReportOf x q Unsettled = Unit {0}

-- the place is one that the root of a bound can have, from 10^-19 to 10^8
abbrev pub IsReportPlaced : Reported → Type 0
IsReportPlaced (Exact b) = Unit {0}
IsReportPlaced (RoundedTo c m e) = (negsuc 18 ≤ℤ e) × (e ≤ℤ pos 8)
IsReportPlaced Unsettled = Unit {0}
