use Rattle.std.proofs.Common.{◌≡◌, drop, nat_eq}
use Rattle.exact_fraction.specs.Number.{◌+ℚ◌, ◌*ℚ◌}
use Rattle.exact_fraction.specs.Sums.{total}
use Rattle.exact_law.specs.Model.{exact_slope}
use Rattle.exact_law.specs.Law.{joint}
use Rattle.plain_law.specs.Numbers.{number}
use Rattle.plain_law.specs.Models.{rows}
use Rattle.plain_law.specs.Groups.{columns}
use Rattle.plain_law.proofs.propagation.table_part.Given as goal

abbrev pub invariant-loop-a : goal.invariant-loop-a
invariant-loop-a l = number l.sum +ℚ total (λ a. total (λ b. exact_slope nat_eq (rows l.model) l.y a.key *ℚ exact_slope nat_eq (rows l.model) l.y b.key *ℚ joint l.table.records a.reading b.reading) (columns l.table.columns.items)) (columns (drop l.a-index l.a-items)) ≡ total (λ a. total (λ b. exact_slope nat_eq (rows l.model) l.y a.key *ℚ exact_slope nat_eq (rows l.model) l.y b.key *ℚ joint l.table.records a.reading b.reading) (columns l.table.columns.items)) (columns l.table.columns.items)
