use Rattle.std.proofs.Common.{◌≡◌, ◌++◌, map, drop}
use Rattle.std.specs.List.{flat_map}
use Rattle.sheet_rows.specs.Rows.{row_of}
use Rattle.sheet_rows.specs.Regular.{AreRegular}
use Rattle.sheet_model.specs.Budgets.{row_variances}
use Rattle.sheet_model.proofs.variances.input_variances.Given as goal

abbrev pub invariant-loop-row : goal.invariant-loop-row
invariant-loop-row g l =
    AreRegular (map (λ row. row_of row.value) (drop l.row-index l.rows))
    × (l.found ++ flat_map row_variances (map (λ row. row_of row.value) (drop l.row-index l.rows)) ≡ flat_map row_variances (map (λ row. row_of row.value) l.rows))
