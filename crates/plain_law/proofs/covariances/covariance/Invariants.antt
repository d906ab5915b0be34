use Rattle.std.proofs.Common.{◌≡◌, drop, nat_eq}
use Rattle.exact_fraction.specs.Number.{◌+ℚ◌}
use Rattle.exact_fraction.specs.Sums.{total}
use Rattle.exact_law.specs.Law.{covariance_in}
use Rattle.plain_law.specs.Numbers.{number}
use Rattle.plain_law.specs.Groups.{groups_of}
use Rattle.plain_law.proofs.covariances.covariance.Given as goal

abbrev pub invariant-loop-group : goal.invariant-loop-group
invariant-loop-group l = number l.sum +ℚ total (λ g. covariance_in nat_eq g l.i l.j) (groups_of (drop l.group-index l.groups)) ≡ total (λ g. covariance_in nat_eq g l.i l.j) (groups_of l.groups)
