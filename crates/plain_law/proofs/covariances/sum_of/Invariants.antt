use Rattle.std.proofs.Common.{◌≡◌}
use Rattle.exact_fraction.specs.Sums.{total, below}
use Rattle.plain_law.specs.Numbers.{number}
use Rattle.plain_law.specs.Groups.{reading}
use Rattle.plain_law.proofs.covariances.sum_of.Given as goal

abbrev pub invariant-loop-index : goal.invariant-loop-index
invariant-loop-index l = number l.sum ≡ total (reading l.readings) (below l.index)
