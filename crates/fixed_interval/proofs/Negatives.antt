-- The negatives of the numbers in a span.
use Rattle.std.proofs.Common.{sym}
use Rattle.exact_fraction.specs.Number.{ℚ, neg_ℚ, ◌≤ℚ◌}
use Rattle.exact_fraction.specs.NumberLaws.{neg_ℚ-≤ℚ}
use Rattle.exact_fraction.proofs.OrderLaws.{≤ℚ_left, ≤ℚ_right}
use Rattle.decimal18.proofs.Upward.{value-negated}
use Rattle.decimal18.specs.Bound.{Bound, value_of}
use Rattle.decimal18.specs.Down.{negated}
use Rattle.fixed_interval.specs.Interval.{Interval, Encloses}
use Rattle.fixed_interval.specs.Rules.{negative_span}

pub negatives_in_order : (a b : Bound) → value_of a ≤ℚ value_of b → value_of (negated b) ≤ℚ value_of (negated a)
negatives_in_order a b h =
    ≤ℚ_left _ _ _ (value-negated b) (≤ℚ_right _ _ _ (sym (value-negated a)) (neg_ℚ-≤ℚ _ _ h))

pub negative_span_encloses : (a : Interval) (q : ℚ) → Encloses a q → Encloses (negative_span a) (neg_ℚ q)
negative_span_encloses a q h = record {
  low = ≤ℚ_left _ _ _ (value-negated a.hi) (neg_ℚ-≤ℚ _ _ h.high);
  high = ≤ℚ_right _ _ _ (sym (value-negated a.lo)) (neg_ℚ-≤ℚ _ _ h.low);
}
