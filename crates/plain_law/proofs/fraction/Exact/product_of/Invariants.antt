use Rattle.std.proofs.Common.{◌≡◌}
use Rattle.exact_fraction.specs.Powers.{power}
use Rattle.plain_law.specs.Numbers.{number}
use Rattle.plain_law.proofs.fraction.Exact.product_of.Given as goal

abbrev pub invariant-loop : goal.invariant-loop
invariant-loop l = number l.product ≡ power (number l.self) l.counter
