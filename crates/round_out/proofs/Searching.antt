-- The digits that are looked for are those of both ends.
use Rattle.std.specs.Prelude.{◌≡◌, ℕ, ◌+◌, ◌*◌, ◌≤◌, ◌<◌, true, not, Option, None, Some, unwrap_or, map, filter, ℤ, pos, negsuc, ◌+ℤ◌, ◌≤ℤ◌, refl}
use Rattle.std.specs.List.{AllByRecursion, find, flat_map, range_with_len}
use Rattle.std.proofs.Common.{sym, ◌∙◌, ap, subst, arith, inl, inr}
use Rattle.std.proofs.lemmas.Bool.{and_from, and_parts, not-true}
use Rattle.std.proofs.lemmas.Bool.Decides.{nat_tests}
use Rattle.std.proofs.lemmas.Int.{ints}
use Rattle.exact_fraction.specs.Number.{ℚ}
use Rattle.exact_fraction.specs.NumberLaws.{≤ℚ_trans}
use Rattle.exact_fraction.proofs.Quotients.{is_zero_ℚ-≡, ≡-is_zero_ℚ}
use Rattle.exact_fraction.proofs.Strict.{<ℚ-≤ℚ}
use Rattle.exact_law.specs.Rounding.{AreDigitsOf, IsTwoDigits, least_root}
use Rattle.exact_law.proofs.RoundingLaws.{scaled_square-rises}
use Rattle.decimal18.specs.Bound.{value_of}
use Rattle.fixed_interval.specs.Interval.{Interval}
use Rattle.round_out.specs.Settled.{AreSettledDigits, IsPlaced, stated_digits}
use Rattle.round_out.specs.Searches.{candidates, digits_of_span, has_root, has_two_digits, have_digits, places}
use Rattle.round_out.specs.declared.digits.Rounded.{Rounded}
use Rattle.round_out.specs.declared.digits.Rounded.TheVariants.{Zero, Digits, Unsettled}
use Rattle.round_out.proofs.Ends.{have_two, stated-unique}
use Rattle.round_out.proofs.Finding.{Stands, all_flat_map, all_follow, all_map, all_range, found_only, none_found, stands_filter, stands_flat_map, stands_map, stands_range}

-- ---- tests
digits_by_test : (v : ℚ) (m : ℕ) (e : ℤ) → 10 ≤ m → m < 100 → has_two_digits v m e ≡ true → IsTwoDigits v m e
digits_by_test v m e least most t =
    let parts = and_parts _ _ t in
    record { at_least_10 = least; at_most_99 = omega arith; low = record { holds = parts.0 }; high = record { not_above = not-true _ parts.1 } }

test_of_digits : (v : ℚ) (m : ℕ) (e : ℤ) → IsTwoDigits v m e → has_two_digits v m e ≡ true
test_of_digits v m e d = and_from _ _ d.low.holds (ap not d.high.not_above)

test_of_place : (v : ℚ) (m : ℕ) (e : ℤ) → IsTwoDigits v m e → has_root v 199 1990 e ≡ true
test_of_place v m e d =
    let least = ≤ℚ_trans _ _ _ (scaled_square-rises 199 (least_root m) e (low m d.at_least_10)) d.low in
    let most = <ℚ-≤ℚ _ _ _ d.high (scaled_square-rises (20 * m + 10) 1990 e (high m d.at_most_99)) in
    and_from _ _ least.holds (ap not most.not_above) where
      low : (m : ℕ) → 10 ≤ m → 199 ≤ least_root m
      low m h = grind (arith, nat_tests)

      high : (m : ℕ) → m ≤ 99 → 20 * m + 10 ≤ 1990
      high m h = omega arith

-- ---- candidates
abbrev pub IsCandidate : Rounded → Type 0
IsCandidate Zero = Unit {0}
IsCandidate (Digits m e) = (10 ≤ m) × (m < 100)
IsCandidate Unsettled = ⊥

pub are_candidates : (v : ℚ) → AllByRecursion IsCandidate (candidates v)
are_candidates v = (
  tt,
  all_flat_map IsCandidate (λ e. map (λ m. Digits m e) (range_with_len 10 90)) (filter (has_root v 199 1990) places)
      (λ e. all_map IsCandidate (λ m. Digits m e) (range_with_len 10 90)
      (all_range (λ m. (10 ≤ m) × (m < 100)) 10 90 100 (omega arith) (λ m h k. (h, k)))),
)

place_number : (e : ℤ) → negsuc 18 ≤ℤ e → e ≤ℤ pos 8 → (n : ℕ) × ((n < 28) × ((pos n +ℤ negsuc 18) ≡ e))
place_number e least most = by (e +ℤ pos 19) refl where
  by : (z : ℤ) → (e +ℤ pos 19) ≡ z → (n : ℕ) × ((n < 28) × ((pos n +ℤ negsuc 18) ≡ e))
  by (pos n) h = (n, (omega (arith, ints), omega (arith, ints)))
  by (negsuc n) h = absurd (omega (arith, ints))

is_candidate : (v : ℚ) (m : ℕ) (e : ℤ) → IsTwoDigits v m e → negsuc 18 ≤ℤ e → e ≤ℤ pos 8 → Stands (Digits m e) (candidates v)
is_candidate v m e d least most = inr (by (place_number e least most)) where
  few : (m : ℕ) → m ≤ 99 → m < 10 + 90
  few m h = omega arith

  by : (n : ℕ) × ((n < 28) × ((pos n +ℤ negsuc 18) ≡ e))
      → Stands (Digits m e) (flat_map (λ e. map (λ m. Digits m e) (range_with_len 10 90)) (filter (has_root v 199 1990) places))
  by (n, (h, k)) =
      stands_flat_map (λ e. map (λ m. Digits m e) (range_with_len 10 90)) e (Digits m e) (filter (has_root v 199 1990) places)
      (stands_map (λ m. Digits m e) m (range_with_len 10 90) (stands_range m 10 90 d.at_least_10 (few m d.at_most_99)))
      (stands_filter (has_root v 199 1990) e places (test_of_place v m e d)
      (subst (λ t. Stands t places) k (stands_map (λ n. pos n +ℤ negsuc 18) n (range_with_len 0 28) (stands_range n 0 28 (omega arith) h))))

-- ---- what is found
pub digits_by_tests : (v : Interval) (r : Rounded) → IsCandidate r → have_digits v r ≡ true → AreSettledDigits v (stated_digits r)
unfolding AreDigitsOf
digits_by_tests v Zero c t =
    let parts = and_parts _ _ t in
    record { low = is_zero_ℚ-≡ _ parts.0; high = is_zero_ℚ-≡ _ parts.1 }
digits_by_tests v (Digits m e) c t =
    let parts = and_parts _ _ t in
    have_two v m e (digits_by_test (value_of v.lo) m e c.0 c.1 parts.0) (digits_by_test (value_of v.hi) m e c.0 c.1 parts.1)
digits_by_tests v Unsettled c t = absurd c

-- each candidate that passes is what is settled
only_settled : (v : Interval) (r : Rounded) → AreSettledDigits v (stated_digits r)
    → AllByRecursion (λ s. have_digits v s ≡ true → s ≡ r) (candidates (value_of v.lo))
only_settled v r h =
    all_follow IsCandidate (λ s. have_digits v s ≡ true → s ≡ r) (candidates (value_of v.lo))
    (λ s c t. stated-unique v s r (digits_by_tests v s c t) h) (are_candidates (value_of v.lo))

no_candidate : (s : Rounded) → IsCandidate s → s ≡ Unsettled → ⊥
no_candidate Zero c e = cc
no_candidate (Digits m f) c e = cc
no_candidate Unsettled c e = c

none_settled : (v : Interval) → AreSettledDigits v None → AllByRecursion (λ s. have_digits v s ≡ true → ⊥) (candidates (value_of v.lo))
none_settled v h =
    all_follow IsCandidate (λ s. have_digits v s ≡ true → ⊥) (candidates (value_of v.lo))
    (λ s c t. no_candidate s c (stated-unique v s Unsettled (digits_by_tests v s c t) h)) (are_candidates (value_of v.lo))

found : (v : Interval) (r : Rounded) (o : Option Rounded) → find (have_digits v) (candidates (value_of v.lo)) ≡ o → unwrap_or o Unsettled ≡ r
    → r ≡ digits_of_span v
unfolding digits_of_span
found v r o e f = sym (ap (λ t. unwrap_or t Unsettled) e ∙ f)

pub digits_are_found : (v : Interval) (r : Rounded) → AreSettledDigits v (stated_digits r) → IsPlaced r → r ≡ digits_of_span v
unfolding AreDigitsOf
digits_are_found v Zero h p =
    found v Zero (Some Zero)
    (found_only (have_digits v) Zero (candidates (value_of v.lo)) (only_settled v Zero h) (and_from _ _ (≡-is_zero_ℚ _ h.low) (≡-is_zero_ℚ _ h.high)) (inl refl))
    refl
digits_are_found v (Digits m e) h p =
    found v (Digits m e) (Some (Digits m e))
    (found_only (have_digits v) (Digits m e) (candidates (value_of v.lo)) (only_settled v (Digits m e) h)
    (and_from _ _ (test_of_digits (value_of v.lo) m e h.low) (test_of_digits (value_of v.hi) m e h.high))
    (is_candidate (value_of v.lo) m e h.low p.0 p.1))
    refl
digits_are_found v Unsettled h p = found v Unsettled None (none_found (have_digits v) (candidates (value_of v.lo)) (none_settled v h)) refl
