use Rattle.std.specs.Prelude.{nat_eq}
use Rattle.std.proofs.Common.{◌∙◌, ap, sym}
use Rattle.exact_fraction.specs.Number.{◌+ℚ◌}
use Rattle.exact_law.specs.Law.{covariance_in, covariance}
use Rattle.plain_law.specs.Numbers.{number}
use Rattle.plain_law.specs.Groups.{group_of}
use Rattle.exact_fraction.proofs.SumLaws.{none_yet, one_more, all_summed}
use Rattle.plain_law.proofs.covariances.covariance.Goals as goal

pub loop-group-init : goal.loop-group-init
loop-group-init c = none_yet (λ g. covariance_in nat_eq g c.args.i c.args.j) group_of c.args.groups.now _ c.whole-sum.ensures

pub loop-group-preserved : goal.loop-group-preserved
loop-group-preserved c =
    one_more (λ g. covariance_in nat_eq g c.args.i c.args.j) group_of c.args.groups.now c.loop-group.group-index c.group-item.result _ _ _ c.loop-group-test.true (sym c.group-item.is)
    c.loop-group.invariant (c.in_ok-sum.ensures ∙ ap (λ x. number c.loop-group.sum +ℚ x) c.in_ok-covariance_in.ensures)

pub returns : goal.returns
unfolding covariance
returns c = all_summed (λ g. covariance_in nat_eq g c.args.i c.args.j) group_of c.args.groups.now c.loop-group.group-index _ _ c.loop-group-test.false c.loop-group.invariant
