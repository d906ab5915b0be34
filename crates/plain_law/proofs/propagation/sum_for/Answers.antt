use Rattle.std.specs.Prelude.{nat_eq}
use Rattle.std.proofs.Common.{◌∙◌, ap, sym}
use Rattle.exact_fraction.specs.Number.{◌+ℚ◌, ◌*ℚ◌}
use Rattle.exact_law.specs.Model.{exact_slope}
use Rattle.exact_law.specs.Law.{covariance}
use Rattle.plain_law.specs.Numbers.{number}
use Rattle.plain_law.specs.Models.{rows}
use Rattle.plain_law.specs.Groups.{groups_of}
use Rattle.plain_law.proofs.Totals.{no_input_yet, one_more_row, all_inputs}
use Rattle.plain_law.proofs.propagation.sum_for.Goals as goal

pub loop-j-init : goal.loop-j-init
loop-j-init c = no_input_yet (λ j. exact_slope nat_eq (rows c.args.model.now) c.args.y c.args.i *ℚ exact_slope nat_eq (rows c.args.model.now) c.args.z j *ℚ covariance nat_eq (groups_of c.args.groups.now) c.args.i j) c.args.model.now _ c.whole-sum.ensures

pub loop-j-preserved : goal.loop-j-preserved
loop-j-preserved c =
    one_more_row (λ j. exact_slope nat_eq (rows c.args.model.now) c.args.y c.args.i *ℚ exact_slope nat_eq (rows c.args.model.now) c.args.z j *ℚ covariance nat_eq (groups_of c.args.groups.now) c.args.i j) c.args.model.now c.loop-j.j c.index-model-j.result _ _ _ c.loop-j-test.true (sym c.index-model-j.is) c.loop-j.invariant
    (c.in_ok-sum.ensures ∙ ap (λ x. number c.loop-j.sum +ℚ x) c.in_ok-term.ensures)

pub returns : goal.returns
returns c = all_inputs (λ j. exact_slope nat_eq (rows c.args.model.now) c.args.y c.args.i *ℚ exact_slope nat_eq (rows c.args.model.now) c.args.z j *ℚ covariance nat_eq (groups_of c.args.groups.now) c.args.i j) c.args.model.now c.loop-j.j _ _ c.loop-j-test.false c.loop-j.invariant
