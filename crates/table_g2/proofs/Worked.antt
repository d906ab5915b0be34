-- What single degrees are, and which of them a range does not allow.
use Rattle.std.specs.Prelude.{◌≡◌, ℕ, Bool, true, false, Some, pos}
use Rattle.std.proofs.Common.{sym, ap, subst, ◌∙◌, inl, inr}
use Rattle.std.proofs.lemmas.Bool.{true≢false}
use Rattle.exact_fraction.specs.Number.{ℚ, of_ℤ, is_at_most_ℚ, ◌≤ℚ◌, floor_ℚ}
use Rattle.exact_fraction.specs.NumberLaws.{≤ℚ_same}
use Rattle.decimal18.specs.Bound.{Bound, scaled, value_of}
use Rattle.decimal18.proofs.Values.{value-whole}
use Rattle.decimal18.specs.OrderLaws.{not_at_most}
use Rattle.exact_law.specs.Degrees.{Degrees, NoDegrees, InfiniteDegrees, FiniteDegrees}
use Rattle.table_g2.specs.Known.{Allows, IsBelow, told_apart}
use Rattle.table_g2.specs.declared.known.Nu.TheVariants.{Range}
use Rattle.table_g2.specs.Said.{IsSaid}
use Rattle.table_g2.specs.declared.settled.DofSaid.TheVariants.{Big, Whole}

-- ---- kinds of degrees
pub same_Finite : (x y : ℚ) → FiniteDegrees x ≡ FiniteDegrees y → x ≡ y
same_Finite x y e = ap (number x) e where
  number : ℚ → Degrees → ℚ
  number d NoDegrees = d
  number d InfiniteDegrees = d
  number d (FiniteDegrees z) = z

pub allowed : (lo hi : Bound) (x : ℚ) → Allows (Range lo (Some hi)) (FiniteDegrees x) → (value_of lo ≤ℚ x) × IsBelow x hi
allowed lo hi x (y, (e, h, k)) = subst (λ z. (value_of lo ≤ℚ z) × IsBelow z hi) (sym (same_Finite x y e)) (h, k)

pub not_below : (lo hi : Bound) (x : ℚ) → is_at_most_ℚ (value_of lo) x ≡ false → ¬ Allows (Range lo (Some hi)) (FiniteDegrees x)
not_below lo hi x e h = not_at_most _ _ e (allowed lo hi x h).0

pub not_above : (lo hi : Bound) (x : ℚ) → is_at_most_ℚ x (value_of hi) ≡ false → is_at_most_ℚ (of_ℤ (pos told_apart)) (value_of hi) ≡ false
    → ¬ Allows (Range lo (Some hi)) (FiniteDegrees x)
not_above lo hi x e f h = by (allowed lo hi x h).1 where
  by : IsBelow x hi → ⊥
  by (inl g) = not_at_most _ _ e g
  by (inr g) = not_at_most _ _ f g

is_finite : Degrees → Bool
is_finite NoDegrees = false
is_finite InfiniteDegrees = false
is_finite (FiniteDegrees x) = true

pub none_not_finite : (x : ℚ) → NoDegrees ≡ FiniteDegrees x → ⊥
unfolding is_finite
none_not_finite x e = true≢false (sym (ap is_finite e))

pub infinite_not_finite : (x : ℚ) → InfiniteDegrees ≡ FiniteDegrees x → ⊥
unfolding is_finite
infinite_not_finite x e = true≢false (sym (ap is_finite e))

is_none : Degrees → Bool
is_none NoDegrees = true
is_none InfiniteDegrees = false
is_none (FiniteDegrees x) = false

pub infinite_not_none : InfiniteDegrees ≡ NoDegrees → ⊥
unfolding is_none
infinite_not_none e = true≢false (sym (ap is_none e))

-- ---- what is said
pub big_number : (x : ℚ) → IsSaid Big (FiniteDegrees x) → of_ℤ (pos told_apart) ≤ℚ x
big_number x (y, (e, h)) = subst (λ z. of_ℤ (pos told_apart) ≤ℚ z) (sym (same_Finite x y e)) h

pub whole_number : (w : ℕ) (x : ℚ) → IsSaid (Whole w) (FiniteDegrees x) → floor_ℚ x ≡ pos w
whole_number w x (y, (e, h)) = ap floor_ℚ (same_Finite x y e) ∙ h

-- ---- ranges from tests
pub one_to : (one : Bound) → one ≡ scaled (pos 1) 0 → of_ℤ (pos 1) ≤ℚ value_of one
one_to one e = ≤ℚ_same _ _ (sym (ap value_of e ∙ value-whole (pos 1)))
