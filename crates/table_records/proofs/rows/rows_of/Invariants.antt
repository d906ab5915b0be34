use Rattle.std.proofs.Common.{◌≡◌, ◌+◌, drop, map}
use Rattle.csv.specs.Records.{fields_of}
use Rattle.table_records.specs.Tables.{rows_in, rows_of}
use Rattle.table_records.proofs.RowSteps.{read_after}
use Rattle.table_records.proofs.rows.rows_of.Given as goal

abbrev pub invariant-loop-i : goal.invariant-loop-i
invariant-loop-i l = read_after (rows_in l.rows.items) (rows_of l.width (2 + l.i) (map fields_of (drop l.i l.below))) ≡ rows_of l.width 2 (map fields_of l.below)
