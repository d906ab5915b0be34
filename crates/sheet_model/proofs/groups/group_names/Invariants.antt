use Rattle.std.proofs.Common.{◌≡◌, ◌++◌, map, drop}
use Rattle.std.specs.List.{flat_map}
use Rattle.sheet_rows.specs.Rows.{row_of}
use Rattle.sheet_model.specs.Budgets.{row_names}
use Rattle.sheet_model.proofs.groups.group_names.Given as goal

abbrev pub invariant-loop-row : goal.invariant-loop-row
invariant-loop-row l =
    let rows = map (λ row. row_of row.value) l.rows in
    l.found ++ flat_map (row_names rows) (map (λ row. row_of row.value) (drop l.row-index l.rows)) ≡ flat_map (row_names rows) rows
