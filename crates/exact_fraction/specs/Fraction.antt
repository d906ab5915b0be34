-- Fractions of whole numbers that have no largest. Nothing is reduced: 1/2 and 2/4 are two fractions,
-- equal by `◌≈◌`. `Number` has one number for both.
use Rattle.std.specs.Prelude.{◌≡◌, ℕ, zero, suc, ◌*◌, ◌/◌, ◌<◌, Bool, true, false, ℤ, pos, negsuc, ◌+ℤ◌, ◌*ℤ◌, ◌≤ℤ◌, neg_ℤ}
use Rattle.std.proofs.Common.{lit<, suc-le-suc, zero-le}
use Rattle.std.proofs.Math.Nat.{mul-pos}
use lib.Signed.{le_z}

-- a whole number over one that is at least 1
pub record Fraction : Type 0 where
  pub num : ℤ
  pub den : ℕ
  pub positive : 0 < den

-- equal, by cross multiplication
infix 4 ◌≈◌
pub record ◌≈◌ (q r : Fraction) : Type 0 where
  pub same : (q.num *ℤ pos r.den) ≡ (r.num *ℤ pos q.den)

-- at most, by cross multiplication
infix 4 ◌≼◌
pub record ◌≼◌ (q r : Fraction) : Type 0 where
  pub at_most : (q.num *ℤ pos r.den) ≤ℤ (r.num *ℤ pos q.den)

-- the order as a test
unfoldable pub is_at_most : Fraction → Fraction → Bool
is_at_most q r = le_z (q.num *ℤ pos r.den) (r.num *ℤ pos q.den)

-- a whole number as a fraction
abbrev pub whole : ℤ → Fraction
whole z = record { num = z; den = 1; positive = lit< tt }

-- the sum
infixl 6 ◌⊕◌
unfoldable pub ◌⊕◌ : Fraction → Fraction → Fraction
q ⊕ r = record {
  num = (q.num *ℤ pos r.den) +ℤ (r.num *ℤ pos q.den);
  den = q.den * r.den;
  positive = mul-pos q.positive r.positive;
}

-- the product
infixl 7 ◌⊗◌
unfoldable pub ◌⊗◌ : Fraction → Fraction → Fraction
q ⊗ r = record {
  num = q.num *ℤ r.num;
  den = q.den * r.den;
  positive = mul-pos q.positive r.positive;
}

-- the negative
unfoldable pub negated : Fraction → Fraction
negated q = record { num = neg_ℤ q.num; den = q.den; positive = q.positive }

-- 1 divided by n / d; for n = 0 it is 0, and means nothing
abbrev pub inverse_of : ℤ → ℕ → Fraction
inverse_of (pos zero) d = whole (pos 0)
inverse_of (pos (suc n)) d = record { num = pos d; den = suc n; positive = suc-le-suc zero-le }
inverse_of (negsuc n) d = record { num = neg_ℤ (pos d); den = suc n; positive = suc-le-suc zero-le }

-- 1 divided by the fraction
unfoldable pub inverse : Fraction → Fraction
inverse q = inverse_of q.num q.den

-- whether a whole number is 0
abbrev pub is_zero_ℤ : ℤ → Bool
is_zero_ℤ (pos zero) = true
is_zero_ℤ (pos (suc n)) = false
is_zero_ℤ (negsuc n) = false

-- the greatest whole number not above n / d: a negative one is rounded away from 0
abbrev pub floor_of : ℤ → ℕ → ℤ
floor_of (pos n) d = pos (n / d)
floor_of (negsuc n) d = negsuc (n / d)

-- the greatest whole number not above the fraction
unfoldable pub floor : Fraction → ℤ
floor q = floor_of q.num q.den
