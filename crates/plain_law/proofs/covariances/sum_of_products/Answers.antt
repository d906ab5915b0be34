use Rattle.std.proofs.Common.{◌∙◌, ap, ap₂}
use Rattle.exact_fraction.specs.Number.{◌+ℚ◌, ◌*ℚ◌}
use Rattle.plain_law.specs.Numbers.{number}
use Rattle.plain_law.specs.Groups.{reading}
use Rattle.exact_fraction.proofs.SumLaws.{below_zero, below_next}
use Rattle.plain_law.proofs.covariances.sum_of_products.Goals as goal

pub loop-index-init : goal.loop-index-init
loop-index-init c = below_zero (λ t. reading c.args.a.now t *ℚ reading c.args.b.now t) _ c.whole-sum.ensures

pub loop-index-preserved : goal.loop-index-preserved
loop-index-preserved c =
    below_next (λ t. reading c.args.a.now t *ℚ reading c.args.b.now t) c.loop-index.index _ _ c.loop-index.invariant
    (c.in_ok-sum.ensures ∙ ap (λ x. x +ℚ number c.loop-index.sum) (c.in_ok-product.ensures ∙ ap₂ ◌*ℚ◌ c.reading_at.ensures c.reading_at-in-loop-index.ensures))
