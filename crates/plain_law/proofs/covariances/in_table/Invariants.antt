use Rattle.std.proofs.Common.{◌≡◌, drop, nat_eq}
use Rattle.exact_fraction.specs.Number.{◌+ℚ◌}
use Rattle.exact_fraction.specs.Sums.{total}
use Rattle.exact_law.specs.Law.{cell, joint}
use Rattle.plain_law.specs.Numbers.{number}
use Rattle.plain_law.specs.Groups.{columns}
use Rattle.plain_law.proofs.covariances.in_table.Given as goal

abbrev pub invariant-loop-a : goal.invariant-loop-a
invariant-loop-a l = number l.sum +ℚ total (λ a. total (λ b. cell nat_eq a.key b.key (joint l.table.records a.reading b.reading) l.i l.j) (columns l.table.columns.items)) (columns (drop l.a-index l.a-items)) ≡ total (λ a. total (λ b. cell nat_eq a.key b.key (joint l.table.records a.reading b.reading) l.i l.j) (columns l.table.columns.items)) (columns l.table.columns.items)
