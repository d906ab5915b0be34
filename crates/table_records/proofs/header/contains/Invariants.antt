use Rattle.std.proofs.Common.{◌≡◌, drop}
use Rattle.formula_ast.specs.NewNames.{has}
use Rattle.table_records.proofs.header.contains.Given as goal

abbrev pub invariant-loop-other : goal.invariant-loop-other
invariant-loop-other l = has (drop l.other-index l.names) l.name ≡ has l.names l.name
