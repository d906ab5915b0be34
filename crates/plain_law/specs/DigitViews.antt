-- What a place and the two digits that the code holds are.
use Rattle.std.specs.Prelude.{◌≡◌, ℕ, ◌+◌, ◌*◌, ◌≤◌, ℤ}
use Rattle.exact_fraction.specs.Number.{ℚ, ◌≤ℚ◌, ◌<ℚ◌}
use Rattle.exact_law.specs.Rounding.{ten_to, least_root, scaled_square, Digits, Zero, Two}
use Rattle.plain_law.specs.Numbers.{number}
use Rattle.plain_law.specs.declared.place.Place.{Place}
use Rattle.plain_law.specs.declared.digits.Digits.{Digits as HeldDigits}
use Rattle.plain_law.specs.declared.digits.Digits.TheVariants.{Zero as HeldZero, Two as HeldTwo}

-- the unit is 10 to the power of the exponent
pub record HasUnit (place : Place) : Type 0 where
  pub unit : number place.unit ≡ ten_to place.exponent

-- the root of s, in twentieths, has two digits at the place
pub record IsPlaceOf (s : ℚ) (place : Place) : Type 0 where
  pub unit : HasUnit place
  pub low : scaled_square 199 place.exponent ≤ℚ s
  pub high : s <ℚ scaled_square 1990 place.exponent

-- m are its digits at the place
pub record AreDigits (s : ℚ) (m : ℕ) (e : ℤ) : Type 0 where
  pub at_least_10 : 10 ≤ m
  pub at_most_99 : m ≤ 99
  pub low : scaled_square (least_root m) e ≤ℚ s
  pub high : s <ℚ scaled_square (20 * m + 10) e

-- the digits as those of the definitions
abbrev pub digits_of : HeldDigits → Digits
digits_of HeldZero = Zero
digits_of (HeldTwo m e) = Two m e
