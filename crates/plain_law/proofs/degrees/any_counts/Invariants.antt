use Rattle.std.proofs.Common.{◌≡◌, map, drop}
use Rattle.exact_law.specs.Degrees.{any_counts}
use Rattle.plain_law.specs.DegreeViews.{share_of}
use Rattle.plain_law.proofs.degrees.any_counts.Given as goal

abbrev pub invariant-loop-share : goal.invariant-loop-share
invariant-loop-share l = any_counts (map share_of (drop l.share-index l.shares)) ≡ any_counts (map share_of l.shares)
