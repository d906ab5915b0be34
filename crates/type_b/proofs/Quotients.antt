-- Quotients by a number that is not 0.
use Rattle.std.specs.Prelude.{◌≡◌, ◌&&◌, Bool, true, false, Option, Some, None, Result, Ok, Err, IfOk, IsErrAnd, MatchResult, pos, refl}
use Rattle.std.specs.Option.{ok_or}
use Rattle.std.proofs.Common.{sym, ◌∙◌}
use Rattle.std.proofs.lemmas.Bool.{true≢false}
use Rattle.exact_fraction.specs.Number.{ℚ, of_ℤ, is_at_most_ℚ, ◌/ℚ◌}
use Rattle.exact_fraction.specs.NumberLaws.{≤ℚ_antisym}
use Rattle.exact_fraction.proofs.Quotients.{≡-is_zero_ℚ}
use Rattle.decimal18.specs.Bound.{Bound, value_of}
use Rattle.fixed_interval.specs.Interval.{Interval, Encloses, point_span}
use Rattle.fixed_interval.specs.Rules.{holds_zero, quotient, quotient_span}
use Rattle.fixed_interval.specs.Sums.{Holds}
use Rattle.fixed_interval.specs.declared.faults.ArithFault.{ArithFault}
use Rattle.fixed_interval.specs.declared.faults.ArithFault.TheVariants as fault
use Rattle.fixed_interval.specs.declared.faults.Overflow.{Overflow}
use Rattle.fixed_interval.proofs.Enclosures.{point_encloses}
use Rattle.fixed_interval.proofs.Inclusions.{quotient_encloses, quotient_without_zero}
use Rattle.type_b.specs.Shapes.{is_zero}
use Rattle.type_b.proofs.Signs.{zero_is_zero}

-- the point of a number that is not 0 does not hold 0
pub not_in_point : (b : Bound) → is_zero b ≡ false → holds_zero (point_span b) ≡ false
unfolding holds_zero
not_in_point b n = by (is_at_most_ℚ (value_of b) (of_ℤ (pos 0))) (is_at_most_ℚ (of_ℤ (pos 0)) (value_of b)) refl refl where
  by : (t u : Bool) → is_at_most_ℚ (value_of b) (of_ℤ (pos 0)) ≡ t → is_at_most_ℚ (of_ℤ (pos 0)) (value_of b) ≡ u → (t && u) ≡ false
  by false u e f = refl
  by true false e f = refl
  by true true e f =
      absurd (true≢false (sym (≡-is_zero_ℚ (value_of b) (≤ℚ_antisym _ _ (record { holds = e }) (record { holds = f }))) ∙ sym (zero_is_zero b) ∙ n))

-- the answer of a division by such a number
pub quotient_by : (a : Interval) (b : Bound) → is_zero b ≡ false → quotient a (point_span b) ≡ ok_or (quotient_span a (point_span b)) fault.Overflow
quotient_by a b n = sym (quotient_without_zero a (point_span b) (not_in_point b n))

-- the same with the fault that is left
pub mapped : (o : Option Interval) (r : Result Interval ArithFault) (x : Result Interval Overflow) (P : ArithFault → Overflow → Type 0)
    → r ≡ ok_or o fault.Overflow → MatchResult r (λ s. x ≡ Ok s) (λ e. IsErrAnd x (P e)) → x ≡ ok_or o (record {})
mapped o r x P e h = by o x (rw e at h) where
  by : (o : Option Interval) (x : Result Interval Overflow) → MatchResult (ok_or o fault.Overflow) (λ s. x ≡ Ok s) (λ e. IsErrAnd x (P e)) → x ≡ ok_or o (record {})
  by None (Ok s) h = absurd h
  by None (Err f) h = refl
  by (Some s) x h = h

held : (o : Option Interval) (q : ℚ) → IfOk (ok_or o fault.Overflow) (λ s. Encloses s q) → Holds o q
held None q h = tt
held (Some s) q h = h

-- what it encloses
pub quotient_holds : (a : Interval) (b : Bound) → is_zero b ≡ false → (q : ℚ) → Encloses a q → Holds (quotient_span a (point_span b)) (q /ℚ value_of b)
quotient_holds a b n q h =
    held (quotient_span a (point_span b)) _
    (quotient_encloses a (point_span b) _ (sym (quotient_by a b n)) q (value_of b) h (point_encloses b))
