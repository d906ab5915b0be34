-- The whole part of a decimal number, by its digits.
use Rattle.std.specs.Prelude.{◌≡◌, ℕ, ◌/◌, ◌^◌, ◌<◌, ◌≤◌, ℤ, pos, negsuc, ◌≤ℤ◌, unsigned_abs, refl}
use Rattle.std.proofs.Common.{arith}
use Rattle.std.proofs.lemmas.Int.{ints}
use Rattle.std.proofs.Math.Dec.{lit≤}
use Rattle.std.proofs.Math.Nat.{pow-le-pow_right}
use std.Quotient.{/_rec}
use Rattle.exact_fraction.specs.Fraction.{floor}
use Rattle.exact_fraction.specs.Number.{of_ℤ, ◌≤ℚ◌, floor_ℚ}
use Rattle.exact_fraction.specs.NumberLaws.{≤floor_ℚ}
use Rattle.decimal18.specs.Bound.{Bound, scaled, value_of}

-- 128 bits hold the power of ten
pub power_fits : (p : ℕ) → p ≤ 36 → 10 ^ p < 2 ^ 128
power_fits p h = let power : 10 ^ p ≤ 10 ^ 36 = pow-le-pow_right {n = 10} (lit≤ tt) h in omega (arith, power)

floor_is : (b : Bound) (c : ℤ) → pos 1 ≤ℤ floor_ℚ (value_of (scaled c b.places))
    → floor_ℚ (value_of (scaled c b.places)) ≡ pos (unsigned_abs c / 10 ^ b.places)
unfolding floor_ℚ floor value_of /_rec
floor_is b (pos n) h = refl
floor_is b (negsuc n) h = absurd (below (n / 10 ^ b.places) h) where
  below : (m : ℕ) → pos 1 ≤ℤ negsuc m → ⊥
  below m k = omega (arith, ints)

pub whole_part_is : (b : Bound) → of_ℤ (pos 1) ≤ℚ value_of b → floor_ℚ (value_of b) ≡ pos (unsigned_abs b.coefficient / 10 ^ b.places)
whole_part_is b h = floor_is b b.coefficient (≤floor_ℚ (pos 1) (value_of b) h)
