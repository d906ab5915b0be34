use Rattle.std.proofs.Common.{◌≡◌, drop}
use Rattle.csv.specs.Records.{fields_of}
use Rattle.table_records.specs.Tables.{numbers_of}
use Rattle.table_records.proofs.RowSteps.{read_after}
use Rattle.table_records.proofs.rows.numbers_of.Given as goal

abbrev pub invariant-loop-i : goal.invariant-loop-i
invariant-loop-i l = read_after l.numbers.items (numbers_of l.k (drop l.i (fields_of l.fields))) ≡ numbers_of l.k (fields_of l.fields)
