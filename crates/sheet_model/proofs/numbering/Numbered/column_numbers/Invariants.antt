use Rattle.std.proofs.Common.{◌≡◌, ◌++◌, map, drop}
use Rattle.sheet_rows.specs.Rows.{column_names}
use Rattle.sheet_model.specs.Numbering.{number_in}
use Rattle.sheet_model.specs.Grouping.{AreAmong}
use Rattle.sheet_model.proofs.numbering.Numbered.column_numbers.Given as goal

abbrev pub invariant-loop-column : goal.invariant-loop-column
invariant-loop-column l =
    AreAmong l.self.names.keys (column_names l.table (drop l.column-index l.columns))
    × (l.ids ++ map (number_in l.self.names.keys) (column_names l.table (drop l.column-index l.columns))
    ≡ map (number_in l.self.names.keys) (column_names l.table l.columns))
