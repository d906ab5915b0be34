-- The span of the square of a correlation coefficient.
use Rattle.std.specs.Prelude.{◌≡◌, false, Option, None, Some, option_map, Ok, Err, pos, refl}
use Rattle.std.specs.Option.{ok_or}
use Rattle.std.proofs.Common.{sym, ◌∙◌, ap, ap₂}
use std.Quotient.{/_rec, /_rec₂}
use Rattle.exact_fraction.specs.Fraction.{is_at_most}
use Rattle.exact_fraction.specs.Number.{of_ℤ, ◌≤ℚ◌, ◌<ℚ◌, is_at_most_ℚ}
use Rattle.exact_fraction.specs.NumberLaws.{≤ℚ_trans, ≤ℚ_same}
use Rattle.exact_fraction.proofs.Extremes.{min-≤_right, ≤-min, max-≥_right}
use Rattle.exact_fraction.proofs.OrderLaws.{≤ℚ_left, ≤ℚ_right}
use Rattle.decimal18.specs.Bound.{Bound, value_of}
use Rattle.decimal18.proofs.Values.{value-whole}
use Rattle.fixed_interval.specs.Interval.{Interval}
use Rattle.fixed_interval.specs.Rules.{zero_bound, one_bound, holds_zero, quotient, quotient_span, product_span, cut_span}
use Rattle.fixed_interval.specs.Extremes.{lesser, greater}
use Rattle.fixed_interval.specs.Sums.{both}
use Rattle.fixed_interval.specs.declared.faults.ArithFault.{ArithFault}
use Rattle.fixed_interval.specs.declared.faults.ArithFault.TheVariants.{Overflow as ArithOverflow}
use Rattle.fixed_interval.specs.declared.faults.Overflow.{Overflow}
use Rattle.fixed_interval.proofs.Halving.{some_of_ok, none_of_err}
use Rattle.fixed_interval.proofs.Inclusions.{quotient_without_zero}
use Rattle.fixed_interval.proofs.Least.{value-lesser, value-greater}
use Rattle.round_out.specs.Correlations.{coefficient_square}
use Rattle.round_out.specs.WithinOne.{IsWithinOne}

-- ---- quotients
pub without_zero : (v : Interval) → of_ℤ (pos 0) <ℚ value_of v.lo → holds_zero v ≡ false
unfolding holds_zero
without_zero v h = rw h.not_above refl

pub quotient_is : (c v : Interval) → of_ℤ (pos 0) <ℚ value_of v.lo → quotient c v ≡ ok_or (quotient_span c v) ArithOverflow
quotient_is c v h = sym (quotient_without_zero c v (without_zero v h))

pub quotient_there : (c v s : Interval) → of_ℤ (pos 0) <ℚ value_of v.lo → Ok s ≡ quotient c v → quotient_span c v ≡ Some s
quotient_there c v s h e = some_of_ok _ ArithOverflow s (e ∙ quotient_is c v h)

pub quotient_missing : (c v : Interval) (fault : ArithFault) → of_ℤ (pos 0) <ℚ value_of v.lo → Err fault ≡ quotient c v → quotient_span c v ≡ None
quotient_missing c v fault h e = none_of_err _ ArithOverflow fault (e ∙ quotient_is c v h)

-- ---- the square
square : Option Interval → Option Interval → Option Interval
square s t = option_map (λ p. cut_span p zero_bound one_bound) (both s t product_span)

pub no_first : (c v w : Interval) (fault : Overflow) → quotient_span c v ≡ None → Err fault ≡ ok_or (coefficient_square c v w) fault
unfolding square
no_first c v w fault e = sym (ap (λ s. ok_or (square s (quotient_span c w)) fault) e)

pub no_second : (c v w s : Interval) (fault : Overflow) → quotient_span c v ≡ Some s → quotient_span c w ≡ None → Err fault ≡ ok_or (coefficient_square c v w) fault
unfolding square
no_second c v w s fault e f = sym (ap₂ (λ s t. ok_or (square s t) fault) e f)

pub no_product : (c v w s t : Interval) (fault : Overflow) → quotient_span c v ≡ Some s → quotient_span c w ≡ Some t → product_span s t ≡ None
    → Err fault ≡ ok_or (coefficient_square c v w) fault
unfolding square
no_product c v w s t fault e f g =
    sym (ap₂ (λ s t. ok_or (square s t) fault) e f ∙ ap (λ p. ok_or (option_map (λ p. cut_span p zero_bound one_bound) p) fault) g)

pub square_there : (c v w s t p r : Interval) (low high : Bound) (fault : Overflow) → quotient_span c v ≡ Some s → quotient_span c w ≡ Some t
    → product_span s t ≡ Some p → low ≡ zero_bound → high ≡ one_bound → r ≡ cut_span p low high → Ok r ≡ ok_or (coefficient_square c v w) fault
unfolding square
square_there c v w s t p r low high fault e f g h i k =
    ap Ok (k ∙ ap₂ (cut_span p) h i)
    ∙ sym (ap₂ (λ s t. ok_or (square s t) fault) e f ∙ ap (λ p. ok_or (option_map (λ p. cut_span p zero_bound one_bound) p) fault) g)

-- ---- from 0 to 1
zero_one : of_ℤ (pos 0) ≤ℚ of_ℤ (pos 1)
unfolding is_at_most_ℚ is_at_most /_rec₂ /_rec
zero_one = record { holds = refl }

pub in_order : (low high : Bound) → low ≡ zero_bound → high ≡ one_bound → value_of low ≤ℚ value_of high
in_order low high e f =
    ≤ℚ_left _ _ _ (ap value_of e ∙ value-whole (pos 0)) (≤ℚ_right _ _ _ (sym (ap value_of f ∙ value-whole (pos 1))) zero_one)

raised : (b : Bound) → of_ℤ (pos 0) ≤ℚ value_of (lesser (greater b zero_bound) one_bound)
raised b =
    ≤ℚ_right _ _ _ (sym (value-lesser (greater b zero_bound) one_bound))
    (≤-min _ _ _ (≤ℚ_right _ _ _ (sym (value-greater b zero_bound)) (≤ℚ_trans _ _ _ (≤ℚ_same _ _ (sym (value-whole (pos 0)))) (max-≥_right _ _)))
    (≤ℚ_right _ _ _ (sym (value-whole (pos 1))) zero_one))

lowered : (b : Bound) → value_of (lesser (greater b zero_bound) one_bound) ≤ℚ of_ℤ (pos 1)
lowered b =
    ≤ℚ_left _ _ _ (value-lesser (greater b zero_bound) one_bound) (≤ℚ_right _ _ _ (value-whole (pos 1)) (min-≤_right _ _))

pub within_one : (p r : Interval) (low high : Bound) → low ≡ zero_bound → high ≡ one_bound → r ≡ cut_span p low high → IsWithinOne r
within_one p r low high e f g = rw (g, e, f) (record { low = raised p.lo; high = lowered p.hi })
