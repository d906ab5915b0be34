use Rattle.std.proofs.Common.{map, drop}
use Rattle.sheet_rows.specs.Rows.{row_of}
use Rattle.sheet_model.specs.Statements.{IsRead}
use Rattle.sheet_model.proofs.statements.Statements.of.Given as goal

abbrev pub invariant-loop-row : goal.invariant-loop-row
invariant-loop-row l =
    IsRead (map (λ row. row_of row.value) l.rows) (map (λ row. row_of row.value) (drop l.row-index l.rows)) l.found
