use Rattle.std.specs.Prelude.{refl}
use Rattle.std.proofs.Common.{rules}
use Rattle.exact_fraction.specs.Number.{of_ℤ, ◌*ℚ◌}
use Rattle.exact_fraction.proofs.SumLaws.{below_zero}
use Rattle.type_a.specs.Tables.{table_of}
use Rattle.type_a.specs.Sums.{coefficient_in}
use Rattle.type_a.proofs.Accepted.{below_thousand}
use Rattle.type_a.proofs.SumSteps.{next_sum, next_sum_of_products}
use Rattle.type_a.proofs.sums.sum_both.Goals as goal

pub loop-i-init : goal.loop-i-init
loop-i-init c =
    let t = table_of c.args.records.now in
    record {
      sums = record {
        products = below_zero (λ row. of_ℤ (coefficient_in t c.args.a row) *ℚ of_ℤ (coefficient_in t c.args.b row)) _ refl;
        first = below_zero (λ row. of_ℤ (coefficient_in t c.args.a row)) _ refl;
        second = below_zero (λ row. of_ℤ (coefficient_in t c.args.b row)) _ refl;
      };
      small = record { products = search rules; first = search rules; second = search rules };
    }

pub with_record-sums-requires-clause-few : goal.with_record-sums-requires-clause-few
with_record-sums-requires-clause-few c = below_thousand c.args.records.now c.loop-i.i c.requires.taken.taken (search rules)

pub loop-i-preserved : goal.loop-i-preserved
loop-i-preserved c =
    let t = table_of c.args.records.now in
    let i = c.loop-i.i in
    let q = c.coefficient_in-q.result in
    let r = c.coefficient_in-r.result in
    record {
      sums = record {
        products = next_sum_of_products t c.args.a c.args.b i c.loop-i.sums.products q r _ (search rules) (search rules) (search rules) (search rules);
        first = next_sum t c.args.a i c.loop-i.sums.first q _ (search rules) (search rules) (search rules);
        second = next_sum t c.args.b i c.loop-i.sums.second r _ (search rules) (search rules) (search rules);
      };
      small = search rules;
    }
