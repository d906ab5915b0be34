use Rattle.std.proofs.Common.{◌≡◌, drop, nat_eq}
use Rattle.exact_fraction.specs.Number.{◌+ℚ◌}
use Rattle.exact_fraction.specs.Sums.{total}
use Rattle.exact_law.specs.Law.{cell, joint}
use Rattle.plain_law.specs.Numbers.{number}
use Rattle.plain_law.specs.Groups.{column, columns}
use Rattle.plain_law.proofs.covariances.in_row.Given as goal

abbrev pub invariant-loop-b : goal.invariant-loop-b
invariant-loop-b l = number l.sum +ℚ total (λ b. cell nat_eq l.a.key b.key (joint l.table.records (column l.a).reading b.reading) l.i l.j) (columns (drop l.b-index l.b-items)) ≡ total (λ b. cell nat_eq l.a.key b.key (joint l.table.records (column l.a).reading b.reading) l.i l.j) (columns l.table.columns.items)
