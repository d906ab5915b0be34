-- The strict order of the numbers: x is below y where y is not at most x.
use Rattle.std.specs.Prelude.{◌≡◌, Bool, true, false, ◌⊎◌, refl}
use Rattle.std.proofs.Common.{sym, ◌∙◌, inl, inr}
use Rattle.std.proofs.lemmas.Bool.{true≢false}
use Rattle.exact_fraction.specs.Number.{ℚ, is_at_most_ℚ, ◌≤ℚ◌, ◌<ℚ◌}
use Rattle.exact_fraction.specs.NumberLaws.{≤ℚ_trans, ≤ℚ-turned}

pub below_not : (x y : ℚ) → x <ℚ y → y ≤ℚ x → ⊥
below_not x y h k = absurd (true≢false (sym k.holds ∙ h.not_above))

pub below_by : (x y : ℚ) → (y ≤ℚ x → ⊥) → x <ℚ y
below_by x y h = by (is_at_most_ℚ y x) refl where
  by : (b : Bool) → is_at_most_ℚ y x ≡ b → x <ℚ y
  by true e = absurd (h (record { holds = e }))
  by false e = record { not_above = e }

pub below_or_not : (x y : ℚ) → (x <ℚ y) ⊎ (y ≤ℚ x)
below_or_not x y = by (is_at_most_ℚ y x) refl where
  by : (b : Bool) → is_at_most_ℚ y x ≡ b → (x <ℚ y) ⊎ (y ≤ℚ x)
  by true e = inr (record { holds = e })
  by false e = inl (record { not_above = e })

pub ≤ℚ-<ℚ : (x y z : ℚ) → x ≤ℚ y → y <ℚ z → x <ℚ z
≤ℚ-<ℚ x y z h k = below_by x z (λ g. below_not y z k (≤ℚ_trans z x y g h))

pub <ℚ-≤ℚ : (x y z : ℚ) → x <ℚ y → y ≤ℚ z → x <ℚ z
<ℚ-≤ℚ x y z h k = below_by x z (λ g. below_not x y h (≤ℚ_trans y z x k g))

pub below_at_most : (x y : ℚ) → x <ℚ y → x ≤ℚ y
below_at_most x y h = ≤ℚ-turned y x h.not_above
