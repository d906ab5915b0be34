use Rattle.std.specs.Prelude.{nat_eq}
use Rattle.std.proofs.Common.{◌∙◌, ap, sym}
use Rattle.exact_fraction.specs.Number.{◌+ℚ◌, ◌*ℚ◌}
use Rattle.exact_fraction.specs.Sums.{total}
use Rattle.exact_law.specs.Model.{exact_slope}
use Rattle.exact_law.specs.Law.{joint}
use Rattle.plain_law.specs.Numbers.{number}
use Rattle.plain_law.specs.Models.{rows}
use Rattle.plain_law.specs.Groups.{column, columns}
use Rattle.exact_fraction.proofs.SumLaws.{none_yet, one_more, all_summed}
use Rattle.plain_law.proofs.propagation.table_part.Goals as goal

pub loop-a-init : goal.loop-a-init
loop-a-init c =
    none_yet (λ a. total (λ b. exact_slope nat_eq (rows c.args.model.now) c.args.y a.key *ℚ exact_slope nat_eq (rows c.args.model.now) c.args.y b.key *ℚ joint c.args.table.now.records a.reading b.reading) (columns c.args.table.now.columns.items)) column c.columns-a-items.result.now _ c.whole-sum.ensures
    ∙ ap (λ cs. total (λ a. total (λ b. exact_slope nat_eq (rows c.args.model.now) c.args.y a.key *ℚ exact_slope nat_eq (rows c.args.model.now) c.args.y b.key *ℚ joint c.args.table.now.records a.reading b.reading) (columns c.args.table.now.columns.items)) (columns cs)) c.columns-a-items.ensures

pub loop-a-preserved : goal.loop-a-preserved
loop-a-preserved c =
    one_more (λ a. total (λ b. exact_slope nat_eq (rows c.args.model.now) c.args.y a.key *ℚ exact_slope nat_eq (rows c.args.model.now) c.args.y b.key *ℚ joint c.args.table.now.records a.reading b.reading) (columns c.args.table.now.columns.items)) column c.columns-a-items.result.now c.loop-a.a-index c.a-item.result _ _ _ c.loop-a-test.true (sym c.a-item.is)
    c.loop-a.invariant (c.in_ok-sum.ensures ∙ ap (λ x. number c.loop-a.sum +ℚ x) c.in_ok-row_part.ensures)

pub returns : goal.returns
returns c = all_summed (λ a. total (λ b. exact_slope nat_eq (rows c.args.model.now) c.args.y a.key *ℚ exact_slope nat_eq (rows c.args.model.now) c.args.y b.key *ℚ joint c.args.table.now.records a.reading b.reading) (columns c.args.table.now.columns.items)) column c.columns-a-items.result.now c.loop-a.a-index _ _ c.loop-a-test.false c.loop-a.invariant
