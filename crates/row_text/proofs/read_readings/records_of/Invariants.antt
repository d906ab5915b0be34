use Rattle.std.proofs.Common.{◌≡◌, ◌++◌, drop}
use Rattle.type_a.specs.Tables.{table_of}
use Rattle.type_a.specs.Tables.{single}
use Rattle.row_text.proofs.read_readings.records_of.Given as goal

abbrev pub invariant-loop-number : goal.invariant-loop-number
invariant-loop-number l = table_of l.records.items ++ single (drop l.number-index l.numbers) ≡ single l.numbers
