-- The hundredths of a correlation coefficient (JCGM 100:2008, 5.2.2) over spans of a covariance and of two variances, by
-- a rule of this project's own.
use Rattle.std.specs.Prelude.{◌≡◌, ◌⊎◌, Option, None, Some, option_map, Result, Ok, Err, ℤ, pos, ◌<ℤ◌, unsigned_abs}
use Rattle.exact_fraction.specs.Number.{ℚ, of_ℤ, ◌≤ℚ◌, ◌<ℚ◌}
use Rattle.decimal18.specs.Bound.{value_of}
use Rattle.fixed_interval.specs.Interval.{Interval}
use Rattle.fixed_interval.specs.Rules.{zero_bound, one_bound, quotient_span, product_span, cut_span}
use Rattle.fixed_interval.specs.Sums.{both}
use Rattle.fixed_interval.specs.declared.faults.Overflow.{Overflow}
use Rattle.exact_law.specs.Rounding.{IsHundredths, IsCorrelation}
use Rattle.round_out.specs.declared.coefficient.CorrSaid.{CorrSaid}
use Rattle.round_out.specs.declared.coefficient.CorrSaid.TheVariants.{None as NoCoefficient, Unsettled, Hundredths}

-- both ends are 0
pub record IsZeroSpan (v : Interval) : Type 0 where
  pub low : value_of v.lo ≡ of_ℤ (pos 0)
  pub high : value_of v.hi ≡ of_ℤ (pos 0)

-- the numbers of both spans are above 0
pub record ArePositive (v w : Interval) : Type 0 where
  pub first : of_ℤ (pos 0) <ℚ value_of v.lo
  pub second : of_ℤ (pos 0) <ℚ value_of w.lo

-- the span of the square of the coefficient, (c / v) (c / w), brought into [0, 1]
abbrev pub coefficient_square : Interval → Interval → Interval → Option Interval
coefficient_square c v w =
    option_map (λ s. cut_span s zero_bound one_bound) (both (quotient_span c v) (quotient_span c w) product_span)

-- both ends f of the square have a root of d hundredths, and c has the sign of d: where d is above 0 no number of c is
-- below 0, where d is below 0 none is above 0 and some are below
pub record IsSettled (c f : Interval) (d : ℤ) : Type 0 where
  pub low : IsHundredths (value_of f.lo) (unsigned_abs d)
  pub high : IsHundredths (value_of f.hi) (unsigned_abs d)
  pub positive : pos 0 <ℤ d → of_ℤ (pos 0) ≤ℚ value_of c.lo
  pub negative : d <ℤ pos 0 → value_of c.hi ≤ℚ of_ℤ (pos 0)
  pub below : d <ℤ pos 0 → value_of c.lo <ℚ of_ℤ (pos 0)

-- what the spans of the covariance and of the square say
abbrev pub IsSaidOf : Interval → Interval → CorrSaid → Type 0
IsSaidOf c f NoCoefficient = ⊥
IsSaidOf c f Unsettled = (d : ℤ) → ¬ IsSettled c f d
IsSaidOf c f (Hundredths d) = IsSettled c f d

-- no variance is 0, and where none may be 0 the square settles no hundredths
pub record IsUnsettled (c v w : Interval) : Type 0 where
  pub first : ¬ IsZeroSpan v
  pub second : ¬ IsZeroSpan w
  pub nothing : ArePositive v w → (f : Interval) × ((coefficient_square c v w ≡ Some f) × ((d : ℤ) → ¬ IsSettled c f d))

-- What is said: there is no coefficient where a variance is 0, nothing is settled where one may be 0, and else what the
-- square says, or an overflow where it has no span
abbrev pub IsSaid : Interval → Interval → Interval → Result CorrSaid Overflow → Type 0
IsSaid c v w (Ok NoCoefficient) = IsZeroSpan v ⊎ IsZeroSpan w
IsSaid c v w (Ok Unsettled) = IsUnsettled c v w
IsSaid c v w (Ok (Hundredths d)) = ArePositive v w × ((f : Interval) × ((coefficient_square c v w ≡ Some f) × IsSettled c f d))
IsSaid c v w (Err fault) = ArePositive v w × (coefficient_square c v w ≡ None)

-- what that means of an exact covariance c of quantities with the exact variances v and w
abbrev pub IsTrueOf : CorrSaid → ℚ → ℚ → ℚ → Type 0
IsTrueOf NoCoefficient c v w = (v ≡ of_ℤ (pos 0)) ⊎ (w ≡ of_ℤ (pos 0))
IsTrueOf Unsettled c v w = Unit {0}
IsTrueOf (Hundredths d) c v w = IsCorrelation c v w d
