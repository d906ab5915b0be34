use Rattle.std.proofs.Common.{◌≡◌, drop, nat_eq}
use Rattle.exact_fraction.specs.Number.{◌+ℚ◌, ◌*ℚ◌}
use Rattle.exact_fraction.specs.Sums.{total}
use Rattle.exact_law.specs.Model.{exact_slope}
use Rattle.exact_law.specs.Law.{covariance, inputs_of}
use Rattle.plain_law.specs.Numbers.{number}
use Rattle.plain_law.specs.Models.{rows_from, rows}
use Rattle.plain_law.specs.Groups.{groups_of}
use Rattle.plain_law.proofs.propagation.sum_for.Given as goal

abbrev pub invariant-loop-j : goal.invariant-loop-j
invariant-loop-j l = number l.sum +ℚ total (λ j. exact_slope nat_eq (rows l.model) l.y l.i *ℚ exact_slope nat_eq (rows l.model) l.z j *ℚ covariance nat_eq (groups_of l.groups) l.i j) (inputs_of (rows_from l.j (drop l.j l.model))) ≡ total (λ j. exact_slope nat_eq (rows l.model) l.y l.i *ℚ exact_slope nat_eq (rows l.model) l.z j *ℚ covariance nat_eq (groups_of l.groups) l.i j) (inputs_of (rows l.model))
