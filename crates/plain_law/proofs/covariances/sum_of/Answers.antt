use Rattle.std.proofs.Common.{◌∙◌, ap}
use Rattle.exact_fraction.specs.Number.{◌+ℚ◌}
use Rattle.plain_law.specs.Numbers.{number}
use Rattle.plain_law.specs.Groups.{reading}
use Rattle.exact_fraction.proofs.SumLaws.{below_zero, below_next}
use Rattle.plain_law.proofs.covariances.sum_of.Goals as goal

pub loop-index-init : goal.loop-index-init
loop-index-init c = below_zero (reading c.args.readings.now) _ c.whole-sum.ensures

pub loop-index-preserved : goal.loop-index-preserved
loop-index-preserved c =
    below_next (reading c.args.readings.now) c.loop-index.index _ _ c.loop-index.invariant
    (c.in_ok-sum.ensures ∙ ap (λ x. x +ℚ number c.loop-index.sum) c.reading_at.ensures)
