-- What the definitions find over spans is so of all numbers in the spans.
use Rattle.std.specs.Prelude.{◌≡◌, Bool, true, false, cond, List, [], ◌∷◌, Option, None, Some, unwrap_or, IfSome, Ok, refl}
use Rattle.std.specs.List.{AllByRecursion, find}
use Rattle.std.proofs.Common.{subst}
use Rattle.exact_fraction.specs.Number.{ℚ, ◌*ℚ◌, ◌≤ℚ◌}
use Rattle.exact_fraction.specs.NumberLaws.{≤ℚ_antisym, ≤ℚ_trans}
use Rattle.exact_law.specs.Rounding.{AreDigitsOf}
use Rattle.decimal18.specs.Bound.{value_of}
use Rattle.fixed_interval.specs.Interval.{Interval, Encloses}
use Rattle.fixed_interval.specs.Rules.{product_span, square_span}
use Rattle.fixed_interval.specs.Sums.{Holds, both}
use Rattle.fixed_interval.proofs.Inclusions.{square_span_encloses}
use Rattle.fixed_interval.proofs.Sums.{product_holds, some_holds}
use Rattle.round_out.specs.Settled.{stated_digits}
use Rattle.round_out.specs.Searches.{candidates, correlation_of, digits_of_span, have_digits}
use Rattle.round_out.specs.Correlations.{IsSaid, IsTrueOf}
use Rattle.round_out.specs.Reports.{IsReportOf, expanded_of, is_point, reported_if, reported_of}
use Rattle.round_out.specs.declared.coefficient.CorrSaid.{CorrSaid}
use Rattle.round_out.specs.declared.coefficient.CorrSaid.TheVariants.{None as NoCoefficient, Unsettled as UnsettledCoefficient, Hundredths}
use Rattle.round_out.specs.declared.digits.Rounded.{Rounded}
use Rattle.round_out.specs.declared.digits.Rounded.TheVariants.{Unsettled as UnsettledDigits}
use Rattle.round_out.specs.declared.outcome.Reported.{Reported}
use Rattle.round_out.specs.declared.outcome.Reported.TheVariants.{Unsettled}
use Rattle.round_out.proofs.Ends.{all_between}
use Rattle.round_out.proofs.Finding.{found_passes}
use Rattle.round_out.proofs.Reporting.{report_holds}
use Rattle.round_out.proofs.Said.{either_zero, said_is_true}
use Rattle.round_out.proofs.Saying.{correlation_is_said}
use Rattle.round_out.proofs.Searching.{IsCandidate, are_candidates, digits_by_tests}

-- ---- digits
found_of_all : {X : Type 0} (P : X → Type 0) (test : X → Bool) (x : X) (xs : List X) → AllByRecursion P xs → find test xs ≡ Some x → P x
found_of_all P test x [] h e = cc
found_of_all {X} P test x (y ∷ ys) h e = by (test y) e (found_of_all P test x ys h.1) where
  by : (b : Bool) → cond b (Some y) (find test ys) ≡ Some x → (find test ys ≡ Some x → P x) → P x
  by true f later =
      let same : y ≡ x = cc in
      subst P same h.0
  by false f later = later f

pub digits_hold : (v : Interval) (q : ℚ) → Encloses v q → IfSome (stated_digits (digits_of_span v)) (AreDigitsOf q)
unfolding digits_of_span
digits_hold v q h = by (find (have_digits v) (candidates (value_of v.lo))) refl where
  by : (o : Option Rounded) → find (have_digits v) (candidates (value_of v.lo)) ≡ o → IfSome (stated_digits (unwrap_or o UnsettledDigits)) (AreDigitsOf q)
  by None e = tt
  by (Some r) e =
      all_between v (stated_digits r)
      (digits_by_tests v r (found_of_all IsCandidate (have_digits v) r (candidates (value_of v.lo)) (are_candidates (value_of v.lo)) e)
      (found_passes (have_digits v) r (candidates (value_of v.lo)) e)) q h

-- ---- reports
pub reported_holds : (y v : Interval) (x q : ℚ) → Encloses y x → Encloses v q → IsReportOf x q (reported_of y v)
unfolding reported_of
reported_holds y v x q h k = report_holds y (digits_of_span v) x q h (digits_hold v q k)

reported_if_holds : (y : Interval) (x q : ℚ) → Encloses y x → (o : Option Interval) → Holds o q → (r : Reported) → reported_if y o ≡ Ok r → IsReportOf x q r
reported_if_holds y x q h None k r e = cc
reported_if_holds y x q h (Some v) k r e =
    let same : reported_of y v ≡ r = cc in
    subst (IsReportOf x q) same (reported_holds y v x q h k)

pub expanded_holds : (y v k : Interval) (x q f : ℚ) → Encloses y x → Encloses v q → Encloses k f → (r : Reported) → expanded_of y v k ≡ Ok r
    → IsReportOf x (f *ℚ f *ℚ q) r
unfolding expanded_of
expanded_holds y v k x q f h i j r e = by (is_point k) e where
  by : (t : Bool) → cond t (reported_if y (both (square_span k) (Some v) product_span)) (Ok Unsettled) ≡ Ok r → IsReportOf x (f *ℚ f *ℚ q) r
  by true g =
      reported_if_holds y x (f *ℚ f *ℚ q) h (both (square_span k) (Some v) product_span)
      (product_holds (square_span k) (Some v) (f *ℚ f) q (some_holds (square_span k) (f *ℚ f) (λ s e. square_span_encloses k s e f j)) i) r g
  by false g =
      let same : Unsettled ≡ r = cc in
      subst (IsReportOf x (f *ℚ f *ℚ q)) same tt

-- where anything is reported the factor is its span's lower end
pub factor_is : (y v k : Interval) (f : ℚ) → Encloses k f → (r : Reported) → expanded_of y v k ≡ Ok r → (r ≡ Unsettled → ⊥) → value_of k.lo ≡ f
unfolding expanded_of
factor_is y v k f j r e said = by (is_point k) refl e where
  by : (t : Bool) → is_point k ≡ t → cond t (reported_if y (both (square_span k) (Some v) product_span)) (Ok Unsettled) ≡ Ok r → value_of k.lo ≡ f
  by true p g = ≤ℚ_antisym _ _ j.low (≤ℚ_trans _ _ _ j.high (record { holds = p }))
  by false p g =
      let same : r ≡ Unsettled = cc in
      absurd (said same)

-- ---- the correlation coefficient
coefficient_by : (c v w : Interval) (r : CorrSaid) → IsSaid c v w (Ok r) → (x y z : ℚ) → Encloses c x → Encloses v y → Encloses w z → x *ℚ x ≤ℚ y *ℚ z
    → IsTrueOf r x y z
coefficient_by c v w NoCoefficient g x y z h k l s = either_zero v w g y z k l
coefficient_by c v w UnsettledCoefficient g x y z h k l s = tt
coefficient_by c v w (Hundredths d) g x y z h k l s = said_is_true c v w g.1.0 (Hundredths d) g.0 g.1.1.0 g.1.1.1 x y z h k l s

pub coefficient_holds : (c v w : Interval) (x y z : ℚ) → Encloses c x → Encloses v y → Encloses w z → x *ℚ x ≤ℚ y *ℚ z → (r : CorrSaid) → correlation_of c v w ≡ Ok r
    → IsTrueOf r x y z
coefficient_holds c v w x y z h k l s r e = coefficient_by c v w r (subst (IsSaid c v w) e (correlation_is_said c v w)) x y z h k l s
