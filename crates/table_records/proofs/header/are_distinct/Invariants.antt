use Rattle.std.proofs.Common.{◌≡◌, drop}
use Rattle.table_records.specs.Header.{are_distinct}
use Rattle.table_records.proofs.header.are_distinct.Given as goal

abbrev pub invariant-loop-i : goal.invariant-loop-i
invariant-loop-i l = are_distinct (drop l.i l.names) ≡ are_distinct l.names
