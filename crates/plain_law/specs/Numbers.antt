-- What the crate's numbers stand for.
use Rattle.std.specs.Prelude.{ℕ, Bool, true, false, not, ℤ, pos, neg_ℤ}
use Rattle.exact_fraction.specs.Number.{ℚ, of_ℤ, ◌/ℚ◌}
use Rattle.plain_law.specs.declared.fraction.Exact.{Exact}

-- a size with its sign
abbrev pub signed : Bool → ℕ → ℤ
signed false n = pos n
signed true n = neg_ℤ (pos n)

-- whether two signs are not the same
abbrev pub differ : Bool → Bool → Bool
differ true b = not b
differ false b = b

-- the number that is held
unfoldable pub number : Exact → ℚ
number e = of_ℤ (signed e.negative e.numerator) /ℚ of_ℤ (pos e.denominator)
