-- Ends that are raised, cut or compared, and what this says of the numbers in a span.
use Rattle.std.specs.Prelude.{◌≡◌, true, false, refl}
use Rattle.std.proofs.Common.{sym, ◌∙◌}
use Rattle.std.proofs.lemmas.Bool.{cond-true, cond-false, true≢false}
use Rattle.exact_fraction.specs.Number.{ℚ, ◌≤ℚ◌, is_at_most_ℚ, min_ℚ, max_ℚ}
use Rattle.exact_fraction.specs.NumberLaws.{≤ℚ_refl, ≤ℚ_trans}
use Rattle.exact_fraction.proofs.OrderLaws.{≤ℚ_left, ≤ℚ_right}
use Rattle.decimal18.specs.Bound.{Bound, value_of}
use Rattle.fixed_interval.specs.Interval.{Interval, Encloses}
use Rattle.fixed_interval.specs.Extremes.{greater}
use Rattle.fixed_interval.specs.Rules.{floored_span, cut_span, brought_into, comparison}
use Rattle.fixed_interval.specs.declared.faults.Truth.TheVariants.{Yes, No, Unsettled}
use Rattle.exact_fraction.proofs.Extremes.{min-≤-min, max-≤-max}
use Rattle.fixed_interval.proofs.Least.{value-lesser, value-greater}

-- ---- floor_at
pub greater_rises : (b c f : Bound) → value_of b ≤ℚ value_of c → value_of (greater b f) ≤ℚ value_of (greater c f)
greater_rises b c f h =
    ≤ℚ_left _ _ _ (value-greater b f) (≤ℚ_right _ _ _ (sym (value-greater c f)) (max-≤-max _ _ _ _ h (≤ℚ_refl _)))

pub floored_span_encloses : (a : Interval) (f : Bound) (q : ℚ) → Encloses a q → Encloses (floored_span a f) (max_ℚ q (value_of f))
floored_span_encloses a f q h = record {
  low = ≤ℚ_left _ _ _ (value-greater a.lo f) (max-≤-max _ _ _ _ h.low (≤ℚ_refl _));
  high = ≤ℚ_right _ _ _ (sym (value-greater a.hi f)) (max-≤-max _ _ _ _ h.high (≤ℚ_refl _));
}

-- ---- cut
value-brought : (low high b : Bound) → value_of (brought_into low high b) ≡ min_ℚ (max_ℚ (value_of b) (value_of low)) (value_of high)
value-brought low high b = rw (value-lesser (greater b low) high, value-greater b low) refl

pub brought_rises : (low high b c : Bound) → value_of b ≤ℚ value_of c → value_of (brought_into low high b) ≤ℚ value_of (brought_into low high c)
brought_rises low high b c h =
    ≤ℚ_left _ _ _ (value-brought low high b)
    (≤ℚ_right _ _ _ (sym (value-brought low high c)) (min-≤-min _ _ _ _ (max-≤-max _ _ _ _ h (≤ℚ_refl _)) (≤ℚ_refl _)))

pub cut_span_encloses : (a : Interval) (low high : Bound) (q : ℚ) → Encloses a q
    → Encloses (cut_span a low high) (min_ℚ (max_ℚ q (value_of low)) (value_of high))
cut_span_encloses a low high q h = record {
  low = ≤ℚ_left _ _ _ (value-brought low high a.lo) (min-≤-min _ _ _ _ (max-≤-max _ _ _ _ h.low (≤ℚ_refl _)) (≤ℚ_refl _));
  high = ≤ℚ_right _ _ _ (sym (value-brought low high a.hi)) (min-≤-min _ _ _ _ (max-≤-max _ _ _ _ h.high (≤ℚ_refl _)) (≤ℚ_refl _));
}

-- ---- at_most
pub comparison_yes : (a b : Interval) → is_at_most_ℚ (value_of a.hi) (value_of b.lo) ≡ true → Yes ≡ comparison a b
unfolding comparison
comparison_yes a b e = sym (cond-true _ _ _ e)

pub comparison_unsettled : (a b : Interval) → is_at_most_ℚ (value_of a.hi) (value_of b.lo) ≡ false
    → is_at_most_ℚ (value_of a.lo) (value_of b.hi) ≡ true → Unsettled ≡ comparison a b
unfolding comparison
comparison_unsettled a b e f = sym (cond-false _ _ _ e ∙ cond-true _ _ _ f)

pub comparison_no : (a b : Interval) → is_at_most_ℚ (value_of a.hi) (value_of b.lo) ≡ false
    → is_at_most_ℚ (value_of a.lo) (value_of b.hi) ≡ false → No ≡ comparison a b
unfolding comparison
comparison_no a b e f = sym (cond-false _ _ _ e ∙ cond-false _ _ _ f)

pub all_at_most : (a b : Interval) → is_at_most_ℚ (value_of a.hi) (value_of b.lo) ≡ true → (q r : ℚ) → Encloses a q → Encloses b r → q ≤ℚ r
all_at_most a b e q r h k =
    let middle : value_of a.hi ≤ℚ value_of b.lo = record { holds = e } in
    ≤ℚ_trans _ _ _ h.high (≤ℚ_trans _ _ _ middle k.low)

pub none_at_most : (a b : Interval) → is_at_most_ℚ (value_of a.lo) (value_of b.hi) ≡ false → (q r : ℚ) → Encloses a q → Encloses b r → ¬ (q ≤ℚ r)
none_at_most a b e q r h k j =
    let ends : value_of a.lo ≤ℚ value_of b.hi = ≤ℚ_trans _ _ _ h.low (≤ℚ_trans _ _ _ j k.high) in
    true≢false (sym ends.holds ∙ e)
