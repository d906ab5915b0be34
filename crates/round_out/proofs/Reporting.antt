-- What is reported of spans is so of the numbers in them.
use Rattle.std.specs.Prelude.{◌≡◌, ℕ, Bool, true, false, cond, Option, None, Some, IfSome, Ok, Err, ℤ, pos, refl}
use Rattle.std.specs.Ordering.{int_eq}
use Rattle.std.proofs.Common.{sym, ◌∙◌, ap, ap₂}
use Rattle.std.proofs.lemmas.Bool.Decides.{Decides-int_eq}
use Rattle.exact_fraction.specs.Number.{ℚ, of_ℤ}
use Rattle.exact_fraction.specs.NumberLaws.{≤ℚ_antisym, ≤ℚ_trans}
use Rattle.exact_law.specs.Rounding.{AreDigitsOf, IsTwoDigits, at_place}
use Rattle.exact_law.proofs.RoundingLaws.{at_place-between}
use Rattle.decimal18.specs.Bound.{Bound, value_of}
use Rattle.fixed_interval.specs.Interval.{Interval, Encloses}
use Rattle.fixed_interval.specs.Rules.{product_span, square_span}
use Rattle.fixed_interval.specs.Sums.{both}
use Rattle.fixed_interval.specs.declared.faults.Overflow.{Overflow}
use Rattle.round_out.specs.Settled.{IsPlaced, settled_estimate, stated_digits}
use Rattle.round_out.specs.Searches.{digits_of_span}
use Rattle.round_out.specs.Reports.{IsReportOf, IsReportPlaced, expanded_of, in_units, is_point, reported_if, reported_of, with_digits}
use Rattle.round_out.specs.declared.digits.Rounded.{Rounded}
use Rattle.round_out.specs.declared.digits.Rounded.TheVariants.{Zero, Digits, Unsettled as UnsettledDigits}
use Rattle.round_out.specs.declared.outcome.Reported.{Reported}
use Rattle.round_out.specs.declared.outcome.Reported.TheVariants.{Exact, Unsettled}

pub reported_is : (y v : Interval) (r : Rounded) (s : Reported) → r ≡ digits_of_span v → s ≡ with_digits y r → s ≡ reported_of y v
unfolding reported_of
reported_is y v r s h k = k ∙ ap (with_digits y) h

-- ---- an estimate that is one number
pub point_is : (s : Interval) (x : ℚ) → is_point s ≡ true → Encloses s x → x ≡ value_of s.lo
point_is s x e h = ≤ℚ_antisym _ _ (≤ℚ_trans _ _ _ h.high (record { holds = e })) h.low

exact_holds : (y : Interval) (x q : ℚ) → Encloses y x → q ≡ of_ℤ (pos 0) → (t : Bool) → is_point y ≡ t → IsReportOf x q (cond t (Exact y.lo) Unsettled)
exact_holds y x q h k true e = record { variance = k; estimate = point_is y x e h }
exact_holds y x q h k false e = tt

-- ---- an estimate in units
estimates_agree : (a b c : ℤ) → (cond (int_eq a b) (Some a) None) ≡ Some c → (a ≡ c) × (b ≡ c)
estimates_agree a b c e = by (int_eq a b) refl e where
  by : (t : Bool) → int_eq a b ≡ t → cond t (Some a) None ≡ Some c → (a ≡ c) × (b ≡ c)
  by true g f =
      let first : a ≡ c = cc in
      let same : a ≡ b = (Decides-int_eq a b).0 g in
      (first, sym same ∙ first)
  by false g f = cc

units_hold : (y : Interval) (x q : ℚ) (m : ℕ) (e : ℤ) → Encloses y x → IsTwoDigits q m e → (o : Option ℤ) → settled_estimate y e ≡ o
    → IsReportOf x q (in_units o m e)
units_hold y x q m e h d None g = tt
units_hold y x q m e h d (Some c) g =
    let same = estimates_agree (at_place (value_of y.lo) e) (at_place (value_of y.hi) e) c g in
    record { digits = d; estimate = at_place-between (value_of y.lo) x (value_of y.hi) e c h.low h.high same.0 same.1 }

pub report_holds : (y : Interval) (r : Rounded) (x q : ℚ) → Encloses y x → IfSome (stated_digits r) (AreDigitsOf q) → IsReportOf x q (with_digits y r)
unfolding AreDigitsOf
report_holds y Zero x q h d = exact_holds y x q h d (is_point y) refl
report_holds y (Digits m e) x q h d = units_hold y x q m e h d (settled_estimate y e) refl
report_holds y UnsettledDigits x q h d = tt

-- ---- places
exact_placed : (b : Bound) (t : Bool) → IsReportPlaced (cond t (Exact b) Unsettled)
exact_placed b true = tt
exact_placed b false = tt

units_placed : (m : ℕ) (e : ℤ) → IsPlaced (Digits m e) → (o : Option ℤ) → IsReportPlaced (in_units o m e)
units_placed m e h None = tt
units_placed m e h (Some c) = h

pub report_placed : (y : Interval) (r : Rounded) → IsPlaced r → IsReportPlaced (with_digits y r)
report_placed y Zero h = exact_placed y.lo (is_point y)
report_placed y (Digits m e) h = units_placed m e h (settled_estimate y e)
report_placed y UnsettledDigits h = tt

-- ---- expanded uncertainties
pub expanded_unsettled : (y v k : Interval) → is_point k ≡ false → Ok Unsettled ≡ expanded_of y v k
unfolding expanded_of
expanded_unsettled y v k h = sym (ap (λ t. cond t (reported_if y (both (square_span k) (Some v) product_span)) (Ok Unsettled)) h)

pub expanded_missing : (y v k : Interval) (fault : Overflow) → is_point k ≡ true → both (square_span k) (Some v) product_span ≡ None
    → Err fault ≡ expanded_of y v k
unfolding expanded_of
expanded_missing y v k fault h e =
    sym (ap₂ (λ t o. cond t (reported_if y o) (Ok Unsettled)) h e)

pub expanded_there : (y v k w : Interval) (r : Reported) → is_point k ≡ true → both (square_span k) (Some v) product_span ≡ Some w → r ≡ reported_of y w
    → Ok r ≡ expanded_of y v k
unfolding expanded_of
expanded_there y v k w r h e g =
    ap Ok g ∙ sym (ap₂ (λ t o. cond t (reported_if y o) (Ok Unsettled)) h e)
