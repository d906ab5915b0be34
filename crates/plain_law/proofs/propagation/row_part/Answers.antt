use Rattle.std.specs.Prelude.{nat_eq}
use Rattle.std.proofs.Common.{◌∙◌, ap, sym}
use Rattle.exact_fraction.specs.Number.{◌+ℚ◌, ◌*ℚ◌}
use Rattle.exact_fraction.specs.Sums.{total}
use Rattle.exact_law.specs.Model.{exact_slope}
use Rattle.exact_law.specs.Law.{joint}
use Rattle.plain_law.specs.Numbers.{number}
use Rattle.plain_law.specs.Models.{rows}
use Rattle.plain_law.specs.Groups.{column, columns}
use Rattle.exact_fraction.proofs.SumLaws.{none_yet, one_more, all_summed}
use Rattle.plain_law.proofs.propagation.row_part.Goals as goal

pub loop-b-init : goal.loop-b-init
loop-b-init c =
    none_yet (λ b. exact_slope nat_eq (rows c.args.model.now) c.args.y c.args.a.now.key *ℚ exact_slope nat_eq (rows c.args.model.now) c.args.y b.key *ℚ joint c.args.table.now.records (column c.args.a.now).reading b.reading) column c.columns-b-items.result.now _ c.whole-sum.ensures
    ∙ ap (λ cs. total (λ b. exact_slope nat_eq (rows c.args.model.now) c.args.y c.args.a.now.key *ℚ exact_slope nat_eq (rows c.args.model.now) c.args.y b.key *ℚ joint c.args.table.now.records (column c.args.a.now).reading b.reading) (columns cs)) c.columns-b-items.ensures

pub loop-b-preserved : goal.loop-b-preserved
loop-b-preserved c =
    one_more (λ b. exact_slope nat_eq (rows c.args.model.now) c.args.y c.args.a.now.key *ℚ exact_slope nat_eq (rows c.args.model.now) c.args.y b.key *ℚ joint c.args.table.now.records (column c.args.a.now).reading b.reading) column c.columns-b-items.result.now c.loop-b.b-index c.b-item.result _ _ _ c.loop-b-test.true (sym c.b-item.is)
    c.loop-b.invariant
    (c.in_ok-sum.ensures ∙ ap (λ x. number c.loop-b.sum +ℚ x)
    (c.in_ok-weighted.ensures ∙ ap (λ x. exact_slope nat_eq (rows c.args.model.now) c.args.y c.args.a.now.key *ℚ exact_slope nat_eq (rows c.args.model.now) c.args.y c.b-item.result.key *ℚ x)
    (c.in_ok-covariance.ensures ∙ ap (λ n. joint n (column c.args.a.now).reading (column c.b-item.result).reading) c.records.ensures.value)))

pub returns : goal.returns
returns c = all_summed (λ b. exact_slope nat_eq (rows c.args.model.now) c.args.y c.args.a.now.key *ℚ exact_slope nat_eq (rows c.args.model.now) c.args.y b.key *ℚ joint c.args.table.now.records (column c.args.a.now).reading b.reading) column c.columns-b-items.result.now c.loop-b.b-index _ _ c.loop-b-test.false c.loop-b.invariant
