use Rattle.std.proofs.Common.{◌≡◌, drop, map}
use Rattle.sheet_rows.specs.Rows.{row_of}
use Rattle.sheet_rows.specs.Sheets.{is_correlated_apart}
use Rattle.sheet_edits.proofs.sheet.Sheet.is_correlated_apart.Given as goal

abbrev pub invariant-loop-other : goal.invariant-loop-other
invariant-loop-other l =
    is_correlated_apart (map (λ row. row_of row.value) (drop l.other-index l.rows)) (row_of l.row) l.name
    ≡ is_correlated_apart l.self.rows (row_of l.row) l.name
