use Rattle.std.proofs.Common.{◌≡◌, ◌≤◌, ◌*◌, ◌^◌, unsigned_abs}
use Rattle.exact_fraction.specs.Number.{of_ℤ}
use Rattle.type_a.specs.Tables.{table_of}
use Rattle.type_a.specs.Sums.{sum_of}
use Rattle.type_a.proofs.sums.sum.Given as goal

abbrev pub invariant-loop-i : goal.invariant-loop-i
invariant-loop-i l = record {
  sum : of_ℤ l.sum ≡ sum_of (table_of l.records) l.column l.i;
  size : unsigned_abs l.sum ≤ l.i * 10 ^ 15;
}
