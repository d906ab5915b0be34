use Rattle.type_a.specs.Tables.{table_of}
use Rattle.type_a.specs.SumsOfTwo.{AreSums, AreSmall}
use Rattle.type_a.proofs.sums.sum_both.Given as goal

abbrev pub invariant-loop-i : goal.invariant-loop-i
invariant-loop-i l = record {
  sums : AreSums (table_of l.records) l.a l.b l.i l.sums;
  small : AreSmall l.i l.sums;
}
