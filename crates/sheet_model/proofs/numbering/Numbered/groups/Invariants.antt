use Rattle.std.proofs.Common.{map, drop}
use Rattle.sheet_rows.specs.Rows.{row_of}
use Rattle.sheet_model.specs.Grouping.{AreGrouped}
use Rattle.sheet_model.proofs.numbering.Numbered.groups.Given as goal

abbrev pub invariant-loop-row : goal.invariant-loop-row
invariant-loop-row l =
    AreGrouped l.self.names.keys (map (λ row. row_of row.value) l.rows) (map (λ row. row_of row.value) (drop l.row-index l.rows)) l.groups
