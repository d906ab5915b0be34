use Rattle.std.specs.Prelude.{nat_eq}
use Rattle.std.proofs.Common.{◌∙◌, ap, sym}
use Rattle.exact_fraction.specs.Number.{◌+ℚ◌, ◌*ℚ◌}
use Rattle.exact_fraction.specs.Sums.{total}
use Rattle.exact_law.specs.Model.{exact_slope}
use Rattle.exact_law.specs.Law.{covariance, inputs_of, law_of, law}
use Rattle.plain_law.specs.Numbers.{number}
use Rattle.plain_law.specs.Models.{rows}
use Rattle.plain_law.specs.Groups.{groups_of}
use Rattle.plain_law.proofs.Totals.{no_input_yet, one_more_row, all_inputs}
use Rattle.plain_law.proofs.propagation.double_sum.Goals as goal

pub loop-i-init : goal.loop-i-init
loop-i-init c = no_input_yet (λ i. total (λ j. exact_slope nat_eq (rows c.args.model.now) c.args.y i *ℚ exact_slope nat_eq (rows c.args.model.now) c.args.z j *ℚ covariance nat_eq (groups_of c.args.groups.now) i j) (inputs_of (rows c.args.model.now))) c.args.model.now _ c.whole-sum.ensures

pub loop-i-preserved : goal.loop-i-preserved
loop-i-preserved c =
    one_more_row (λ i. total (λ j. exact_slope nat_eq (rows c.args.model.now) c.args.y i *ℚ exact_slope nat_eq (rows c.args.model.now) c.args.z j *ℚ covariance nat_eq (groups_of c.args.groups.now) i j) (inputs_of (rows c.args.model.now))) c.args.model.now c.loop-i.i c.index-model-i.result _ _ _ c.loop-i-test.true (sym c.index-model-i.is) c.loop-i.invariant
    (c.in_ok-sum.ensures ∙ ap (λ x. number c.loop-i.sum +ℚ x) c.in_ok-inner_sum.ensures)

pub returns : goal.returns
unfolding law law_of
returns c = all_inputs (λ i. total (λ j. exact_slope nat_eq (rows c.args.model.now) c.args.y i *ℚ exact_slope nat_eq (rows c.args.model.now) c.args.z j *ℚ covariance nat_eq (groups_of c.args.groups.now) i j) (inputs_of (rows c.args.model.now))) c.args.model.now c.loop-i.i _ _ c.loop-i-test.false c.loop-i.invariant
