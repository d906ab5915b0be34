use Rattle.std.proofs.Common.{◌≡◌, drop, not}
use Rattle.std.specs.Prelude.{find}
use Rattle.sheet_rows.specs.Rows.{row_of}
use Rattle.sheet_edits.specs.Places.{is_known_with}
use Rattle.sheet_edits.proofs.sheet.Sheet.first_unknown.Given as goal

abbrev pub invariant-loop-name : goal.invariant-loop-name
invariant-loop-name l =
    find (λ n. not (is_known_with l.self (row_of l.row) n)) (drop l.name-index l.names) ≡ find (λ n. not (is_known_with l.self (row_of l.row) n)) l.names
