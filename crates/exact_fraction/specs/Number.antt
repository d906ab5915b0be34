-- The numbers that contracts speak of: fractions up to equality, so that equality of numbers is `≡`.
-- Each operation is that of the fractions, with the lemmas that equal fractions give equal answers.
use Rattle.std.specs.Prelude.{◌≡◌, Bool, true, false, if◌then◌else◌, ℤ}
use Rattle.std.proofs.Math.Bool.{Bool-set}
use lib.IntN.{ℤ_set}
use std.Quotient.{cls, eq/, /_set, /_rec, /_rec₂}
use Rattle.exact_fraction.specs.Fraction.{Fraction, ◌≈◌, ◌⊕◌, ◌⊗◌, negated, whole, inverse, is_zero_ℤ, is_at_most, floor}
use Rattle.exact_fraction.specs.FractionLaws.{⊕-same, ⊕-same_right, ⊗-same, ⊗-same_right, negated-same, is_at_most-same, is_at_most-same_right}
use Rattle.exact_fraction.specs.Inverse.{inverse-same, is_zero-same}
use Rattle.exact_fraction.specs.Floor.{floor-same}

-- the numbers: the quotient of the fractions by their equality, so equal fractions are one number
abbrev pub ℚ : Type 0
ℚ = std.Quotient.◌/◌ Fraction ◌≈◌

-- the number of a fraction
abbrev pub number_of : Fraction → ℚ
number_of q = cls q

-- the number of a whole number
abbrev pub of_ℤ : ℤ → ℚ
of_ℤ z = cls (whole z)

-- the sum
infixl 6 ◌+ℚ◌
unfoldable pub ◌+ℚ◌ : ℚ → ℚ → ℚ
◌+ℚ◌ = /_rec₂ /_set (λ a b. cls (a ⊕ b)) (λ a a' b h. eq/ _ _ (⊕-same a a' b h)) (λ a b b' h. eq/ _ _ (⊕-same_right a b b' h))

-- the product
infixl 7 ◌*ℚ◌
unfoldable pub ◌*ℚ◌ : ℚ → ℚ → ℚ
◌*ℚ◌ = /_rec₂ /_set (λ a b. cls (a ⊗ b)) (λ a a' b h. eq/ _ _ (⊗-same a a' b h)) (λ a b b' h. eq/ _ _ (⊗-same_right a b b' h))

-- the negative
unfoldable pub neg_ℚ : ℚ → ℚ
neg_ℚ = /_rec /_set (λ a. cls (negated a)) (λ a b h. eq/ _ _ (negated-same a b h))

-- the difference
infixl 6 ◌-ℚ◌
abbrev pub ◌-ℚ◌ : ℚ → ℚ → ℚ
x -ℚ y = x +ℚ neg_ℚ y

-- 1 divided by the number; for 0 it is 0, and means nothing
unfoldable pub inv_ℚ : ℚ → ℚ
inv_ℚ = /_rec /_set (λ a. cls (inverse a)) (λ a b h. eq/ _ _ (inverse-same a b h))

-- the quotient; by 0 it is 0, and means nothing
infixl 7 ◌/ℚ◌
abbrev pub ◌/ℚ◌ : ℚ → ℚ → ℚ
x /ℚ y = x *ℚ inv_ℚ y

-- whether the number is 0
unfoldable pub is_zero_ℚ : ℚ → Bool
is_zero_ℚ = /_rec Bool-set (λ a. is_zero_ℤ a.num) is_zero-same

-- whether x is at most y
unfoldable pub is_at_most_ℚ : ℚ → ℚ → Bool
is_at_most_ℚ = /_rec₂ Bool-set is_at_most is_at_most-same is_at_most-same_right

-- x is at most y
infix 4 ◌≤ℚ◌
pub record ◌≤ℚ◌ (x y : ℚ) : Type 0 where
  pub holds : is_at_most_ℚ x y ≡ true

-- x is below y
infix 4 ◌<ℚ◌
pub record ◌<ℚ◌ (x y : ℚ) : Type 0 where
  pub not_above : is_at_most_ℚ y x ≡ false

-- the lesser of two numbers
unfoldable pub min_ℚ : ℚ → ℚ → ℚ
min_ℚ x y = if is_at_most_ℚ x y then x else y

-- the greater of two numbers
unfoldable pub max_ℚ : ℚ → ℚ → ℚ
max_ℚ x y = if is_at_most_ℚ x y then y else x

-- the greatest whole number not above x
unfoldable pub floor_ℚ : ℚ → ℤ
floor_ℚ = /_rec ℤ_set floor floor-same
