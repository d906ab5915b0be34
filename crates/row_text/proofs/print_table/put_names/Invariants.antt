use Rattle.std.proofs.Common.{◌≡◌, ◌++◌, drop}
use Rattle.row_text.proofs.JoinedTexts.{after_commas}
use Rattle.row_text.proofs.print_table.put_names.Given as goal

abbrev pub invariant-loop-name : goal.invariant-loop-name
invariant-loop-name l = l.out ++ after_commas (drop l.name-index l.others) ≡ l.initial.out ++ after_commas l.others
