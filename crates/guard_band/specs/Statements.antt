-- Statements of conformity over spans of an estimate, of its variance and of its coverage factor, with a guard band w = r U
-- and the two forms of ILAC-G8:09/2019, 4.2.2 and 4.2.3. The exact statement, and the statement over exact ends, stand in the
-- exact law. By which operations the spans of the guard band and of the distances are found is this project's own rule.
use Rattle.std.specs.Prelude.{◌≡◌, ℕ, ◌||◌, true, Option, None, Some, is_some, option_map, Result, Ok, Err, List, [], ◌∷◌, ◌++◌, pos}
use Rattle.std.specs.Option.{option_and_then, option_zip}
use Rattle.exact_fraction.specs.Number.{of_ℤ, ◌≤ℚ◌}
use Rattle.exact_law.specs.WrittenRule.{Form as ExactForm, Binary as ExactBinary, FourOutcomes, Rule as ExactRule, Ends, Span as ExactSpan, Decision, Stated, Undecided as UndecidedAt, Pass as ExactPass, ConditionalPass as ExactConditionalPass, ConditionalFail as ExactConditionalFail, Fail as ExactFail, decision}
use Rattle.decimal18.specs.Bound.{Bound, value_of}
use Rattle.fixed_interval.specs.Interval.{Interval, point_span}
use Rattle.fixed_interval.specs.Rules.{difference_span, product_span, square_span}
use Rattle.fixed_interval.specs.Sums.{both}
use Rattle.fixed_interval.specs.declared.faults.Overflow.{Overflow}
use Rattle.guard_band.specs.declared.rule.Form.{Form}
use Rattle.guard_band.specs.declared.rule.Form.TheVariants.{Binary, Four}
use Rattle.guard_band.specs.declared.rule.Rule.{Rule}
use Rattle.guard_band.specs.declared.rule.Condition.{Condition}
use Rattle.guard_band.specs.declared.rule.Condition.TheVariants.{Guarded, Inside, Near}
use Rattle.guard_band.specs.declared.rule.Said.{Said}
use Rattle.guard_band.specs.declared.rule.Said.TheVariants.{Pass, ConditionalPass, ConditionalFail, Fail, Undecided}

-- ---- a rule and what it says, in the terms of the exact law
abbrev pub exact_form : Form → ExactForm
exact_form Binary = ExactBinary
exact_form Four = FourOutcomes

abbrev pub exact_rule : Rule → ExactRule
exact_rule rule = record {
  lower = option_map value_of rule.lower;
  upper = option_map value_of rule.upper;
  guard = value_of rule.guard;
  form = exact_form rule.form;
}

abbrev pub number_of : Condition → ℕ
number_of Guarded = 1
number_of Inside = 2
number_of Near = 3

abbrev pub decision_of : Said → Decision
decision_of Pass = Stated ExactPass
decision_of ConditionalPass = Stated ExactConditionalPass
decision_of ConditionalFail = Stated ExactConditionalFail
decision_of Fail = Stated ExactFail
decision_of (Undecided first) = UndecidedAt (number_of first)

-- it has a limit, and its guard band is from 0 to 3 expanded uncertainties wide, by a limit of our own
pub record IsRule (rule : Rule) : Type 0 where
  pub limit : (is_some rule.lower || is_some rule.upper) ≡ true
  pub least : of_ℤ (pos 0) ≤ℚ value_of rule.guard
  pub most : value_of rule.guard ≤ℚ of_ℤ (pos 3)

-- ---- the spans
-- W = w² = r² k² V
abbrev pub guard_square_span : Bound → Interval → Interval → Option Interval
guard_square_span r k v = both (both (square_span (point_span r)) (square_span k) product_span) (Some v) product_span

-- how far y lies inside a lower limit, and inside an upper one
abbrev pub above : Interval → Bound → Option Interval
above y limit = difference_span y (point_span limit)

abbrev pub below : Interval → Bound → Option Interval
below y limit = difference_span (point_span limit) y

-- the exact numbers of a span are those between these ends
abbrev pub ends_of : Interval → Ends
ends_of s = record { low = value_of s.lo; high = value_of s.hi }

abbrev pub with_square : Interval → Option ExactSpan
with_square d = option_map (λ s. record { distance = ends_of d; square = ends_of s }) (square_span d)

-- the distance from a limit and its square, where there is a limit
abbrev pub at_limit : (Bound → Option Interval) → Option Bound → Option (List ExactSpan)
at_limit distance None = Some []
at_limit distance (Some limit) = option_map (λ s. s ∷ []) (option_and_then with_square (distance limit))

abbrev pub distances_over : Rule → Interval → Option (List ExactSpan)
distances_over rule y =
    option_map (λ found. found.0 ++ found.1) (option_zip (at_limit (above y) rule.lower) (at_limit (below y) rule.upper))

-- ---- the statement of the rule on the estimate y, the variance v and the factor k, where all spans are there
abbrev pub decision_over : Rule → Interval → Interval → Interval → Option Decision
decision_over rule y v k =
    option_map (λ found. decision (exact_form rule.form) (ends_of found.0) found.1)
    (option_zip (guard_square_span rule.guard k v) (distances_over rule y))

-- what is answered means what was to be found, and it is an overflow where that is not there
abbrev pub IsAnswer : {T U : Type 0} → (T → U) → Option U → Result T Overflow → Type 0
IsAnswer meaning wanted (Ok x) = wanted ≡ Some (meaning x)
IsAnswer meaning wanted (Err fault) = wanted ≡ None
