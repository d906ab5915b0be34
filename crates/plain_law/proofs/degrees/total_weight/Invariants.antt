use Rattle.std.proofs.Common.{◌≡◌, map, drop}
use Rattle.exact_fraction.specs.Number.{◌+ℚ◌}
use Rattle.exact_fraction.specs.Sums.{total}
use Rattle.exact_law.specs.Degrees.{weight}
use Rattle.plain_law.specs.Numbers.{number}
use Rattle.plain_law.specs.DegreeViews.{share_of}
use Rattle.plain_law.proofs.degrees.total_weight.Given as goal

abbrev pub invariant-loop-share : goal.invariant-loop-share
invariant-loop-share l = number l.sum +ℚ total weight (map share_of (drop l.share-index l.shares)) ≡ total weight (map share_of l.shares)
