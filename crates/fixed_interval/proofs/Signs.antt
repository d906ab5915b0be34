-- The sign of a decimal number is that of its coefficient.
use Rattle.std.specs.Prelude.{◌≡◌, ℕ, pos, ◌^◌, ◌*ℤ◌}
use Rattle.std.proofs.Common.{sym, ap₂, arith}
use Rattle.std.proofs.lemmas.Int.{ints}
use lib.Signed.{le_z}
use std.Quotient.{/_rec, /_rec₂}
use Rattle.exact_fraction.specs.Fraction.{is_at_most}
use Rattle.exact_fraction.specs.Floor.{times_one}
use Rattle.exact_fraction.specs.Number.{of_ℤ, is_at_most_ℚ}
use Rattle.decimal18.specs.Bound.{Bound, value_of}

zero_times : (n : ℕ) → (pos 0 *ℤ pos n) ≡ pos 0
zero_times n = omega (arith, ints)

pub not_negative_test : (b : Bound) → le_z (pos 0) b.coefficient ≡ is_at_most_ℚ (of_ℤ (pos 0)) (value_of b)
unfolding is_at_most_ℚ value_of is_at_most /_rec₂ /_rec
not_negative_test b = ap₂ le_z (sym (zero_times (10 ^ b.places))) (sym (times_one b.coefficient))

pub not_positive_test : (b : Bound) → le_z b.coefficient (pos 0) ≡ is_at_most_ℚ (value_of b) (of_ℤ (pos 0))
unfolding is_at_most_ℚ value_of is_at_most /_rec₂ /_rec
not_positive_test b = ap₂ le_z (sym (times_one b.coefficient)) (sym (zero_times (10 ^ b.places)))
