use Rattle.std.proofs.Common.{◌≡◌, ◌≤◌, drop}
use Rattle.std.specs.Prelude.{max}
use Rattle.type_a.specs.Tables.{finest, table_of}
use Rattle.type_a.proofs.checks.finest.Given as goal

abbrev pub invariant-loop-row : goal.invariant-loop-row
invariant-loop-row l = record {
  rest : max l.places (finest (table_of (drop l.row-index l.rows))) ≡ finest (table_of l.rows);
  most : l.places ≤ 36;
}
