use Rattle.std.proofs.Common.{◌≡◌, drop, map}
use Rattle.std.specs.Prelude.{find}
use Rattle.sheet_rows.specs.Rows.{row_of}
use Rattle.sheet_edits.specs.Places.{is_left_by}
use Rattle.sheet_edits.proofs.users.first_left_by.Given as goal

abbrev pub invariant-loop-other : goal.invariant-loop-other
invariant-loop-other l =
    find (is_left_by (row_of l.old) (row_of l.row)) (map (λ row. row_of row.value) (drop l.other-index l.rows))
    ≡ find (is_left_by (row_of l.old) (row_of l.row)) (map (λ row. row_of row.value) l.rows)
