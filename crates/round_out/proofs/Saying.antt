-- What is said of a correlation coefficient by looking for its hundredths.
use Rattle.std.specs.Prelude.{◌≡◌, ℕ, ◌+◌, ◌*◌, ◌-◌, ◌≤◌, ◌<◌, ◌==◌, ◌||◌, ◌&&◌, ◌⊎◌, Bool, true, false, not, cond, Option, None, Some, Result, Ok, option_map, pos, neg_ℤ, ◌≤ℤ◌, unsigned_abs, refl}
use Rattle.std.specs.List.{find, range_with_len}
use Rattle.std.specs.Option.{option_map_or}
use Rattle.std.proofs.Common.{sym, ap, arith, inl, inr, mul-le-mul}
use Rattle.std.proofs.lemmas.Bool.{and_cases, and_from, and_parts, both_ways, cases_lt, eqb-false, eqb-true, not-false, not-true, or_cases, or_parts}
use Rattle.std.proofs.lemmas.Int.{ints}
use Rattle.exact_fraction.specs.Number.{ℚ, of_ℤ, is_at_most_ℚ, ◌≤ℚ◌, ◌<ℚ◌}
use Rattle.exact_fraction.specs.NumberLaws.{≤ℚ_trans, ≤ℤ-of_≤ℚ}
use Rattle.exact_fraction.proofs.OrderLaws.{≤ℚ_right}
use Rattle.exact_fraction.proofs.Quotients.{is_zero_ℚ-≡, ≡-is_zero_ℚ}
use Rattle.exact_fraction.proofs.Signs.{of_pos-*, times-≤ℚ}
use Rattle.exact_law.specs.Rounding.{IsHundredths}
use Rattle.decimal18.specs.Bound.{value_of}
use Rattle.fixed_interval.specs.Interval.{Interval}
use Rattle.fixed_interval.specs.Rules.{zero_bound, one_bound, quotient_span, product_span, cut_span}
use Rattle.fixed_interval.specs.Sums.{both}
use Rattle.fixed_interval.specs.declared.faults.Overflow.{Overflow}
use Rattle.round_out.specs.Correlations.{IsZeroSpan, ArePositive, coefficient_square, IsSaidOf, IsSaid}
use Rattle.round_out.specs.Searches.{correlation_of, has_hundredths, have_hundredths, is_positive_span, is_zero_span, said_of, with_sign}
use Rattle.round_out.specs.WithinOne.{IsWithinOne}
use Rattle.round_out.specs.declared.coefficient.CorrSaid.{CorrSaid}
use Rattle.round_out.specs.declared.coefficient.CorrSaid.TheVariants.{None as NoCoefficient, Unsettled, Hundredths}
use Rattle.round_out.proofs.Coefficients.{within_one}
use Rattle.round_out.proofs.Finding.{found_passes, none_passes, stands_range}
use Rattle.round_out.proofs.Said.{minus, no_sign, plus, said-unique, said_is}
use Rattle.round_out.proofs.Tens.{coefficient_above, coefficient_below, none_above, none_below}

-- ---- hundredths
hundredths_by_test : (f : ℚ) (m : ℕ) → has_hundredths f m ≡ true → IsHundredths f m
hundredths_by_test f m t =
    let parts = and_parts _ _ t in
    record { low = record { holds = parts.0 }; high = record { not_above = not-true _ parts.1 } }

test_of_hundredths : (f : ℚ) (m : ℕ) → IsHundredths f m → has_hundredths f m ≡ true
test_of_hundredths f m h = and_from _ _ h.low.holds (ap not h.high.not_above)

-- a number of at most 1 has at most 100 hundredths
at_most_100 : (f : ℚ) (m : ℕ) → f ≤ℚ of_ℤ (pos 1) → IsHundredths f m → m < 0 + 101
at_most_100 f m h k = by (cases_lt m 101) where
  most : ((2 * m - 1) * (2 * m - 1)) ≤ 40000
  most =
      let least = ≤ℤ-of_≤ℚ (pos ((2 * m - 1) * (2 * m - 1))) (pos (40000 * 1))
      (≤ℚ_trans _ _ _ k.low (≤ℚ_right _ _ _ (sym (of_pos-* 40000 1)) (times-≤ℚ 40000 f (of_ℤ (pos 1)) h))) in
      omega (arith, ints)

  by : (m < 101) ⊎ (101 ≤ m) → m < 0 + 101
  by (inl g) = omega arith
  by (inr g) =
      let root : 201 ≤ 2 * m - 1 = omega arith in
      let square : 201 * 201 ≤ (2 * m - 1) * (2 * m - 1) = mul-le-mul root root in
      let small = most in
      absurd (omega arith)

-- ---- signs
by_high : (c f : Interval) (m : ℕ) → IsHundredths (value_of f.lo) m → IsHundredths (value_of f.hi) m → (m ≡ 0 → ⊥) → (pos 0 ≤ℤ c.lo.coefficient → ⊥)
    → (t : Bool) → is_at_most_ℚ (value_of c.hi) (of_ℤ (pos 0)) ≡ t → IsSaidOf c f (cond t (Hundredths (neg_ℤ (pos m))) Unsettled)
by_high c f m h k some low true e = minus c f m h k (coefficient_above c.hi (record { holds = e })) low
by_high c f m h k some low false e =
    no_sign c f m h some low (λ g. both_ways _ e (none_above c.hi g).holds)

by_low : (c f : Interval) (m : ℕ) → IsHundredths (value_of f.lo) m → IsHundredths (value_of f.hi) m
    → (t : Bool) → (m == 0 || is_at_most_ℚ (of_ℤ (pos 0)) (value_of c.lo)) ≡ t
    → IsSaidOf c f (cond t (Hundredths (pos m)) (cond (is_at_most_ℚ (value_of c.hi) (of_ℤ (pos 0))) (Hundredths (neg_ℤ (pos m))) Unsettled))
by_low c f m h k true e = plus c f m h k (sign (or_cases _ _ e)) where
  sign : ((m == 0) ≡ true) ⊎ (is_at_most_ℚ (of_ℤ (pos 0)) (value_of c.lo) ≡ true) → (m ≡ 0) ⊎ (pos 0 ≤ℤ c.lo.coefficient)
  sign (inl g) = inl (eqb-true m 0 g)
  sign (inr g) = inr (coefficient_below c.lo (record { holds = g }))
by_low c f m h k false e =
    let parts = or_parts _ _ e in
    by_high c f m h k (eqb-false m 0 parts.0) (λ g. both_ways _ parts.1 (none_below c.lo g).holds) (is_at_most_ℚ (value_of c.hi) (of_ℤ (pos 0))) refl

-- ---- what the square says
by_hundredths : (c f : Interval) → IsWithinOne f → (o : Option ℕ) → find (have_hundredths f) (range_with_len 0 101) ≡ o
    → IsSaidOf c f (option_map_or (with_sign c) o Unsettled)
by_hundredths c f w None e = λ d s.
    none_passes (have_hundredths f) (unsigned_abs d) (range_with_len 0 101) e
    (and_from _ _ (test_of_hundredths (value_of f.lo) (unsigned_abs d) s.low) (test_of_hundredths (value_of f.hi) (unsigned_abs d) s.high))
    (stands_range (unsigned_abs d) 0 101 (omega arith) (at_most_100 (value_of f.hi) (unsigned_abs d) w.high s.high))
by_hundredths c f w (Some m) e =
    let parts = and_parts _ _ (found_passes (have_hundredths f) m (range_with_len 0 101) e) in
    by_low c f m (hundredths_by_test (value_of f.lo) m parts.0) (hundredths_by_test (value_of f.hi) m parts.1) _ refl

is_within : (o : Option Interval) (f : Interval) → option_map (λ s. cut_span s zero_bound one_bound) o ≡ Some f → IsWithinOne f
is_within None f e = cc
is_within (Some s) f e =
    let same : f ≡ cut_span s zero_bound one_bound = cc in
    within_one s f zero_bound one_bound refl refl same

by_square : (c v w : Interval) → ArePositive v w → (IsZeroSpan v → ⊥) → (IsZeroSpan w → ⊥) → (o : Option Interval) → coefficient_square c v w ≡ o
    → IsSaid c v w (said_of c o)
by_square c v w p nv nw None e = (p, e)
by_square c v w p nv nw (Some f) e =
    said_is c v w f (option_map_or (with_sign c) (find (have_hundredths f) (range_with_len 0 101)) Unsettled) nv nw p e
    (by_hundredths c f (is_within (both (quotient_span c v) (quotient_span c w) product_span) f e) (find (have_hundredths f) (range_with_len 0 101)) refl)

-- ---- the variances
zero_by_test : (v : Interval) → is_zero_span v ≡ true → IsZeroSpan v
zero_by_test v t =
    let parts = and_parts _ _ t in
    record { low = is_zero_ℚ-≡ _ parts.0; high = is_zero_ℚ-≡ _ parts.1 }

not_zero_by_test : (v : Interval) → is_zero_span v ≡ false → IsZeroSpan v → ⊥
not_zero_by_test v t z = both_ways _ t (and_from _ _ (≡-is_zero_ℚ _ z.low) (≡-is_zero_ℚ _ z.high))

positive_by_test : (v : Interval) → is_positive_span v ≡ true → of_ℤ (pos 0) <ℚ value_of v.lo
positive_by_test v t = record { not_above = not-true _ t }

not_positive_by_test : (v : Interval) → is_positive_span v ≡ false → of_ℤ (pos 0) <ℚ value_of v.lo → ⊥
not_positive_by_test v t h = both_ways _ h.not_above (not-false _ t)

by_positive : (c v w : Interval) → (IsZeroSpan v → ⊥) → (IsZeroSpan w → ⊥) → (t : Bool) → (is_positive_span v && is_positive_span w) ≡ t
    → IsSaid c v w (cond t (said_of c (coefficient_square c v w)) (Ok Unsettled))
by_positive c v w nv nw true e =
    let parts = and_parts _ _ e in
    by_square c v w (record { first = positive_by_test v parts.0; second = positive_by_test w parts.1 }) nv nw (coefficient_square c v w) refl
by_positive c v w nv nw false e = record { first = nv; second = nw; nothing = λ p. absurd (by (and_cases _ _ e) p) } where
  by : (is_positive_span v ≡ false) ⊎ (is_positive_span w ≡ false) → ArePositive v w → ⊥
  by (inl g) p = not_positive_by_test v g p.first
  by (inr g) p = not_positive_by_test w g p.second

by_zero : (c v w : Interval) (t : Bool) → (is_zero_span v || is_zero_span w) ≡ t
    → IsSaid c v w (cond t (Ok NoCoefficient) (cond (is_positive_span v && is_positive_span w) (said_of c (coefficient_square c v w)) (Ok Unsettled)))
by_zero c v w true e = by (or_cases _ _ e) where
  by : (is_zero_span v ≡ true) ⊎ (is_zero_span w ≡ true) → IsZeroSpan v ⊎ IsZeroSpan w
  by (inl g) = inl (zero_by_test v g)
  by (inr g) = inr (zero_by_test w g)
by_zero c v w false e =
    let parts = or_parts _ _ e in
    by_positive c v w (not_zero_by_test v parts.0) (not_zero_by_test w parts.1) (is_positive_span v && is_positive_span w) refl

pub correlation_is_said : (c v w : Interval) → IsSaid c v w (correlation_of c v w)
unfolding correlation_of
correlation_is_said c v w = by_zero c v w (is_zero_span v || is_zero_span w) refl

pub coefficient_is_found : (c v w : Interval) (r : Result CorrSaid Overflow) → IsSaid c v w r → r ≡ correlation_of c v w
coefficient_is_found c v w r h = said-unique c v w r (correlation_of c v w) h (correlation_is_said c v w)
