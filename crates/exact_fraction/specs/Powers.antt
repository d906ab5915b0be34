-- Powers of a number with whole exponents.
use Rattle.std.specs.Prelude.{ℕ, zero, suc, ℤ, pos, negsuc}
use Rattle.exact_fraction.specs.Number.{ℚ, of_ℤ, ◌*ℚ◌, inv_ℚ}

-- x times itself, n factors
unfoldable pub power : ℚ → ℕ → ℚ
power x zero = of_ℤ (pos 1)
power x (suc n) = power x n *ℚ x

-- the same for a whole exponent: for a negative one it is 1 divided by the power, and of 0 means nothing
unfoldable pub whole_power : ℚ → ℤ → ℚ
whole_power x (pos n) = power x n
whole_power x (negsuc n) = inv_ℚ (power x (suc n))
