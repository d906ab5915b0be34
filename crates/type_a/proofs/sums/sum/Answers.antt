use Rattle.std.specs.Prelude.{refl}
use Rattle.std.proofs.Common.{rules}
use Rattle.exact_fraction.specs.Number.{of_ℤ}
use Rattle.exact_fraction.proofs.SumLaws.{below_zero}
use Rattle.type_a.specs.Tables.{table_of}
use Rattle.type_a.specs.Sums.{coefficient_in}
use Rattle.type_a.proofs.Accepted.{below_thousand}
use Rattle.type_a.proofs.SumSteps.{next_sum}
use Rattle.type_a.proofs.sums.sum.Goals as goal

pub loop-i-init : goal.loop-i-init
loop-i-init c = record {
  sum = below_zero (λ row. of_ℤ (coefficient_in (table_of c.args.records.now) c.args.column row)) _ refl;
  size = search rules;
}

pub plus-sum-requires-clause-few : goal.plus-sum-requires-clause-few
plus-sum-requires-clause-few c = below_thousand c.args.records.now c.loop-i.i c.requires.taken.taken (search rules)

pub loop-i-preserved : goal.loop-i-preserved
loop-i-preserved c = record {
  sum =
      next_sum (table_of c.args.records.now) c.args.column c.loop-i.i c.loop-i.sum c.coefficient_in.result _ (search rules) (search rules) (search rules);
  size = search rules;
}
