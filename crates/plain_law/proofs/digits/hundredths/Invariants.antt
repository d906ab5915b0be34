use Rattle.std.proofs.Common.{◌-◌, ◌*◌}
use Rattle.std.specs.Prelude.{pos}
use Rattle.exact_fraction.specs.Number.{of_ℤ, ◌≤ℚ◌}
use Rattle.plain_law.specs.Numbers.{number}
use Rattle.plain_law.proofs.digits.hundredths.Given as goal

abbrev pub invariant-loop-hundredths : goal.invariant-loop-hundredths
invariant-loop-hundredths l = of_ℤ (pos ((2 * l.hundredths - 1) * (2 * l.hundredths - 1))) ≤ℚ number l.scaled
