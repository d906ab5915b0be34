use Rattle.std.proofs.Common.{◌≡◌, ◌++◌, drop}
use Rattle.row_text.specs.Printing.{one_column, numbers_text}
use Rattle.row_text.proofs.print.put_readings.Given as goal

abbrev pub invariant-loop-row : goal.invariant-loop-row
invariant-loop-row l =
    l.out ++ numbers_text (one_column (drop l.row l.readings)) ≡ l.initial.out ++ numbers_text (one_column l.readings)
