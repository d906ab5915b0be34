use Rattle.std.specs.Prelude.{◌≡◌, bytes_eq, drop}
use Rattle.std.specs.List.{list_any}
use Rattle.sheet_rows.specs.Rows.{column_names}
use Rattle.sheet_rows.proofs.row.is_of_columns.Given as goal

-- the name is one of the columns where it is one of those that are left
abbrev pub invariant-loop-column : goal.invariant-loop-column
invariant-loop-column l =
    list_any (bytes_eq l.name) (column_names l.table (drop l.column-index l.columns)) ≡ list_any (bytes_eq l.name) (column_names l.table l.columns)
