use Rattle.std.proofs.Common.{◌≡◌, ◌++◌, [], drop, get_or}
use Rattle.row_text.specs.Printing.{number_fields}
use Rattle.row_text.proofs.JoinedTexts.{after_commas}
use Rattle.row_text.proofs.print_table.put_record.Given as goal

abbrev pub invariant-loop-column : goal.invariant-loop-column
invariant-loop-column l =
    l.out ++ after_commas (number_fields (drop l.column (get_or l.readings l.row [])))
    ≡ l.initial.out ++ after_commas (number_fields (drop 1 (get_or l.readings l.row [])))
