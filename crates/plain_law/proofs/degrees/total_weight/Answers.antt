use Rattle.std.proofs.Common.{◌∙◌, ap, sym}
use Rattle.exact_fraction.specs.Number.{◌+ℚ◌, ◌*ℚ◌}
use Rattle.exact_fraction.proofs.SumLaws.{none_yet, one_more, all_summed}
use Rattle.exact_law.specs.Degrees.{weight}
use Rattle.plain_law.specs.Numbers.{number}
use Rattle.plain_law.specs.DegreeViews.{share_of}
use Rattle.plain_law.proofs.degrees.total_weight.Goals as goal

pub loop-share-init : goal.loop-share-init
loop-share-init c = none_yet weight share_of c.args.shares.now _ c.whole-sum.ensures

pub loop-share-preserved : goal.loop-share-preserved
unfolding weight
loop-share-preserved c =
    one_more weight share_of c.args.shares.now c.loop-share.share-index c.share-item.result _ _ _ c.loop-share-test.true (sym c.share-item.is)
    c.loop-share.invariant
    (c.in_ok-sum.ensures ∙ ap (λ x. number c.loop-share.sum +ℚ x) (c.in_ok-times.ensures ∙ ap (λ x. x *ℚ number c.share-item.result.inverse_degrees) c.in_ok-square.ensures))

pub returns : goal.returns
returns c = all_summed weight share_of c.args.shares.now c.loop-share.share-index _ _ c.loop-share-test.false c.loop-share.invariant
