use Rattle.std.proofs.Common.{◌≡◌, ◌++◌, drop}
use Rattle.row_text.specs.Printing.{records_text}
use Rattle.row_text.proofs.print_table.put_records.Given as goal

abbrev pub invariant-loop-row : goal.invariant-loop-row
invariant-loop-row l = l.out ++ records_text (drop l.row l.readings) ≡ l.initial.out ++ records_text l.readings
