use Rattle.std.proofs.Common.{◌≤◌}
use Rattle.exact_fraction.specs.Number.{◌≤ℚ◌}
use Rattle.exact_law.specs.Rounding.{least_root, scaled_square}
use Rattle.plain_law.specs.Numbers.{number}
use Rattle.plain_law.proofs.digits.digits_at.Given as goal

abbrev pub invariant-loop-digits : goal.invariant-loop-digits
invariant-loop-digits l = record { from_10 : 10 ≤ l.digits; low : scaled_square (least_root l.digits) l.place.exponent ≤ℚ number l.scaled }
