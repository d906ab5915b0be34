-- Decimal numbers of at most 18 digits.
use Rattle.std.specs.Prelude.{◌≢◌, ℕ, zero, suc, ◌%◌, ◌^◌, ◌<◌, ◌≤◌, ◌==◌, if◌then◌else◌, ℤ, pos, unsigned_abs, int_div}
use Rattle.std.proofs.Math.Dec.{lit≤}
use Rattle.std.proofs.Math.Nat.{one-le-pow}
use std.Quotient.{cls}
use Rattle.exact_fraction.specs.Fraction.{Fraction}
use Rattle.exact_fraction.specs.Number.{ℚ}

-- the decimal number coefficient / 10 ^ places
pub record Bound : Type 0 where
  pub coefficient : ℤ
  pub places : ℕ

-- the pair of c and p, read as c / 10 ^ p
abbrev pub scaled : ℤ → ℕ → Bound
scaled c p = record { coefficient = c; places = p }

-- the same number as a fraction, which is not reduced
abbrev pub fraction_of : Bound → Fraction
fraction_of b = record {
  num = b.coefficient;
  den = 10 ^ b.places;
  positive = one-le-pow b.places 10 (lit≤ tt);
}

-- its exact value
unfoldable pub value_of : Bound → ℚ
value_of b = cls (fraction_of b)

-- a bound: at most 18 digits, and at most 36 of them after the point
pub record IsBound (b : Bound) : Type 0 where
  pub digits : unsigned_abs b.coefficient < 10 ^ 18
  pub most : b.places ≤ 36

-- fewer places would not do: there are none, or the last digit is not 0
pub record IsCanonical (b : Bound) : Type 0 where
  pub least : 0 < b.places → unsigned_abs b.coefficient % 10 ≢ 0

-- a bound in the form that each number has once
pub record IsDecimal (b : Bound) : Type 0 where
  pub bound : IsBound b
  pub canonical : IsCanonical b

-- c / 10 ^ p in canonical form: without the zeros at the end of the digits after the point
abbrev pub canonical : ℤ → ℕ → Bound
canonical c zero = scaled c 0
canonical c (suc p) =
    if unsigned_abs c % 10 == 0 then canonical (int_div c (pos 10)) p else scaled c (suc p)
