use Rattle.std.proofs.Common.{◌≡◌, drop, map}
use Rattle.std.specs.Prelude.{find}
use Rattle.sheet_rows.specs.Rows.{row_of}
use Rattle.sheet_edits.specs.Verdicts.{is_user_of}
use Rattle.sheet_edits.proofs.users.first_user.Given as goal

abbrev pub invariant-loop-other : goal.invariant-loop-other
invariant-loop-other l =
    find (is_user_of (row_of l.row)) (map (λ row. row_of row.value) (drop l.other-index l.rows))
    ≡ find (is_user_of (row_of l.row)) (map (λ row. row_of row.value) l.rows)
