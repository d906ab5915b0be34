use Rattle.std.proofs.Common.{◌≡◌, ◌++◌, drop}
use Rattle.type_a.specs.Tables.{table_of}
use Rattle.type_a.proofs.readings.copied.Given as goal

abbrev pub invariant-loop-row : goal.invariant-loop-row
invariant-loop-row l = table_of l.records.items ++ table_of (drop l.row-index l.rows) ≡ table_of l.rows
