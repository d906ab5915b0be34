use Rattle.std.proofs.Common.{◌≡◌, drop, nat_eq}
use Rattle.exact_fraction.specs.Number.{◌+ℚ◌, ◌*ℚ◌}
use Rattle.exact_fraction.specs.Sums.{total}
use Rattle.exact_law.specs.Model.{exact_slope}
use Rattle.exact_law.specs.Law.{joint}
use Rattle.plain_law.specs.Numbers.{number}
use Rattle.plain_law.specs.Models.{rows}
use Rattle.plain_law.specs.Groups.{column, columns}
use Rattle.plain_law.proofs.propagation.row_part.Given as goal

abbrev pub invariant-loop-b : goal.invariant-loop-b
invariant-loop-b l = number l.sum +ℚ total (λ b. exact_slope nat_eq (rows l.model) l.y l.a.key *ℚ exact_slope nat_eq (rows l.model) l.y b.key *ℚ joint l.table.records (column l.a).reading b.reading) (columns (drop l.b-index l.b-items)) ≡ total (λ b. exact_slope nat_eq (rows l.model) l.y l.a.key *ℚ exact_slope nat_eq (rows l.model) l.y b.key *ℚ joint l.table.records (column l.a).reading b.reading) (columns l.table.columns.items)
