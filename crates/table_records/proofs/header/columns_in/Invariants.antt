use Rattle.std.proofs.Common.{◌≡◌, ◌++◌, drop, map}
use Rattle.std.specs.List.{list_all}
use Rattle.csv.specs.Records.{fields_of}
use Rattle.table_records.specs.Records.{trimmed}
use Rattle.table_records.specs.Header.{is_column}
use Rattle.table_records.proofs.header.columns_in.Given as goal

abbrev pub invariant-loop-i : goal.invariant-loop-i
invariant-loop-i l = record {
  names : l.columns ++ map trimmed (drop l.i (fields_of l.header)) ≡ map trimmed (fields_of l.header);
  columns : list_all is_column (map trimmed (drop l.i (fields_of l.header))) ≡ list_all is_column (map trimmed (fields_of l.header));
}
