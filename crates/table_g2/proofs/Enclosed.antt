-- The span of the factor encloses the exact one.
use Rattle.std.specs.Prelude.{◌≡◌, ◌⊎◌, Option, None, Some, IfSome, pos, refl}
use Rattle.std.proofs.Common.{sym, ap, ◌∙◌, subst, inl, inr, arith}
use Rattle.std.proofs.lemmas.Int.{ints}
use Rattle.exact_fraction.specs.Number.{ℚ, of_ℤ, ◌≤ℚ◌}
use Rattle.exact_fraction.specs.NumberLaws.{≤ℚ_refl, ≤ℚ_trans, ≤ℚ_same, ≤ℚ_total, of_ℤ-≤ℚ}
use Rattle.exact_fraction.proofs.Quotients.{number_of-parts}
use Rattle.decimal18.specs.Bound.{Bound, scaled, fraction_of, value_of}
use Rattle.decimal18.proofs.Canonical.{IsReduced-canonical}
use Rattle.fixed_interval.specs.Interval.{Interval, Encloses, point_span}
use Rattle.exact_law.specs.Degrees.{Degrees, NoDegrees, InfiniteDegrees, FiniteDegrees, thousandths, factor, factor_in, row_of}
use Rattle.exact_law.proofs.FactorLaws.{factor-falls, factor-infinite, factor-from_100}
use Rattle.table_g2.specs.Known.{AreDegrees, Allows, IsBelow, told_apart}
use Rattle.table_g2.specs.Factors.{column, factor_bound, least_factor, factor_span}
use Rattle.table_g2.proofs.Worked.{same_Finite}
use Rattle.table_g2.specs.declared.known.Level.{Level}
use Rattle.table_g2.specs.declared.known.Nu.{Nu}
use Rattle.table_g2.specs.declared.known.Nu.TheVariants.{None as NoNu, Infinite, Range}

-- ---- the factor as a decimal number
pub factor_value : (level : Level) (d : Degrees) → value_of (factor_bound level d) ≡ factor (column level) d
unfolding factor factor_in value_of
factor_value level d =
    let t = thousandths (column level) (row_of d) in
    (IsReduced-canonical (pos t) 3).same ∙ number_of-parts (fraction_of (scaled (pos t) 3))

above : (level : Level) (d : Degrees) (k : ℚ) → k ≤ℚ factor (column level) d → k ≤ℚ value_of (factor_bound level d)
above level d k h = ≤ℚ_trans _ _ _ h (≤ℚ_same _ _ (sym (factor_value level d)))

below : (level : Level) (d : Degrees) (k : ℚ) → factor (column level) d ≤ℚ k → value_of (factor_bound level d) ≤ℚ k
below level d k h = ≤ℚ_trans _ _ _ (≤ℚ_same _ _ (factor_value level d)) h

-- ---- the ends
same_factor : (level : Level) → factor (column level) NoDegrees ≡ factor (column level) InfiniteDegrees
unfolding factor row_of
same_factor level = refl

-- from 100 on all factors are one
at_great : (level : Level) (x y : ℚ) → of_ℤ (pos told_apart) ≤ℚ y → factor (column level) (FiniteDegrees y) ≤ℚ factor (column level) (FiniteDegrees x)
at_great level x y h = by (≤ℚ_total x y) where
  low : of_ℤ (pos 100) ≤ℚ y
  low = ≤ℚ_trans _ _ _ (of_ℤ-≤ℚ (pos 100) (pos told_apart) (omega (arith, ints))) h

  by : (x ≤ℚ y) ⊎ (y ≤ℚ x) → factor (column level) (FiniteDegrees y) ≤ℚ factor (column level) (FiniteDegrees x)
  by (inl g) = factor-falls (column level) x y g
  by (inr g) = ≤ℚ_same _ _ (factor-from_100 (column level) y low ∙ sym (factor-from_100 (column level) x (≤ℚ_trans _ _ _ low g)))

at_upper : (level : Level) (x : ℚ) (hi : Bound) → IsBelow x hi → factor (column level) (FiniteDegrees (value_of hi)) ≤ℚ factor (column level) (FiniteDegrees x)
at_upper level x hi (inl h) = factor-falls (column level) x (value_of hi) h
at_upper level x hi (inr h) = at_great level x (value_of hi) h

-- degrees with the factor of infinite ones
at_infinite : (level : Level) (d : Degrees) → factor (column level) d ≡ factor (column level) InfiniteDegrees
    → Encloses (factor_span Infinite level) (factor (column level) d)
at_infinite level d e = record {
  low = below level InfiniteDegrees _ (≤ℚ_same _ _ (sym e));
  high = above level InfiniteDegrees _ (≤ℚ_same _ _ e);
}

at_least : (level : Level) (lo : Bound) (d : Degrees) → factor (column level) d ≡ factor (column level) InfiniteDegrees
    → Encloses (factor_span (Range lo None) level) (factor (column level) d)
at_least level lo d e = record {
  low = below level InfiniteDegrees _ (≤ℚ_same _ _ (sym e));
  high = above level (FiniteDegrees (value_of lo)) _ (≤ℚ_trans _ _ _ (≤ℚ_same _ _ e) (factor-infinite (column level) (value_of lo)));
}

in_range : (level : Level) (lo hi : Bound) (x : ℚ) → value_of lo ≤ℚ x → IsBelow x hi
    → Encloses (factor_span (Range lo (Some hi)) level) (factor (column level) (FiniteDegrees x))
in_range level lo hi x h k = record {
  low = below level (FiniteDegrees (value_of hi)) _ (at_upper level x hi k);
  high = above level (FiniteDegrees (value_of lo)) _ (factor-falls (column level) (value_of lo) x h);
}

pub span_encloses : (nu : Nu) (level : Level) (d : Degrees) → Allows nu d → Encloses (factor_span nu level) (factor (column level) d)
span_encloses NoNu level d h = record {
  low = below level NoDegrees _ (≤ℚ_same _ _ (ap (factor (column level)) (sym h)));
  high = above level NoDegrees _ (≤ℚ_same _ _ (ap (factor (column level)) h));
}
span_encloses Infinite level NoDegrees h = at_infinite level NoDegrees (same_factor level)
span_encloses Infinite level InfiniteDegrees h = at_infinite level InfiniteDegrees refl
span_encloses Infinite level (FiniteDegrees x) h = absurd (h x refl)
span_encloses (Range lo None) level NoDegrees h = at_least level lo NoDegrees (same_factor level)
span_encloses (Range lo None) level InfiniteDegrees h = at_least level lo InfiniteDegrees refl
span_encloses (Range lo None) level (FiniteDegrees x) h = record {
  low = below level InfiniteDegrees _ (factor-infinite (column level) x);
  high = above level (FiniteDegrees (value_of lo)) _ (factor-falls (column level) (value_of lo) x (h x refl));
}
span_encloses (Range lo (Some hi)) level d (x, (e, h, k)) =
    subst (λ n. Encloses (factor_span (Range lo (Some hi)) level) (factor (column level) n)) (sym e) (in_range level lo hi x h k)

pub encloses : (nu : Nu) (level : Level) (s : Interval) → s ≡ factor_span nu level
    → (d : Degrees) → Allows nu d → Encloses s (factor (column level) d)
encloses nu level s e d h = subst (λ t. Encloses t (factor (column level) d)) (sym e) (span_encloses nu level d h)

-- ---- without finite degrees
same_bound : (level : Level) → factor_bound level InfiniteDegrees ≡ factor_bound level NoDegrees
unfolding row_of
same_bound level = refl

pub without_finite : (nu : Nu) (level : Level) (b : Bound) (s : Interval) → (nu ≡ NoNu) ⊎ (nu ≡ Infinite) → b ≡ factor_bound level InfiniteDegrees
    → s ≡ point_span b → s ≡ factor_span nu level
without_finite nu level b s (inl e) h k = k ∙ ap point_span (h ∙ same_bound level) ∙ ap (λ n. factor_span n level) (sym e)
without_finite nu level b s (inr e) h k = k ∙ ap point_span h ∙ ap (λ n. factor_span n level) (sym e)

-- ---- what the calls ask
pub upper_at_least_one : (lo : Bound) (hi : Option Bound) → AreDegrees (Range lo hi) → IfSome hi (λ b. of_ℤ (pos 1) ≤ℚ value_of b)
upper_at_least_one lo None h = tt
upper_at_least_one lo (Some hi) h = ≤ℚ_trans _ _ _ h.at_least_one h.ordered

pub ends_ordered : (level : Level) (lo : Bound) (hi : Option Bound) → AreDegrees (Range lo hi)
    → value_of (least_factor level hi) ≤ℚ value_of (factor_bound level (FiniteDegrees (value_of lo)))
ends_ordered level lo hi h = ≤ℚ_trans _ _ _ at_lo.low at_lo.high where
  allowed : (hi : Option Bound) → AreDegrees (Range lo hi) → Allows (Range lo hi) (FiniteDegrees (value_of lo))
  allowed None h = λ x e. ≤ℚ_same _ _ (same_Finite (value_of lo) x e)
  allowed (Some hi) h = (value_of lo, (refl, ≤ℚ_refl _, inl h.ordered))

  at_lo : Encloses (factor_span (Range lo hi) level) (factor (column level) (FiniteDegrees (value_of lo)))
  at_lo = span_encloses (Range lo hi) level (FiniteDegrees (value_of lo)) (allowed hi h)
