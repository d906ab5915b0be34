use Rattle.std.specs.Prelude.{pos}
use Rattle.std.proofs.Common.{◌∙◌, ap, ap₂}
use Rattle.std.proofs.lemmas.Option.{IfSome_then}
use Rattle.exact_fraction.specs.Number.{of_ℤ, ◌*ℚ◌, ◌/ℚ◌, ◌-ℚ◌}
use Rattle.exact_fraction.specs.Sums.{total, below}
use Rattle.exact_law.specs.Law.{joint}
use Rattle.plain_law.specs.Groups.{reading}
use Rattle.plain_law.proofs.covariances.joint.Goals as goal

pub returns : goal.returns
unfolding joint
returns c =
    let q = reading c.args.a.now.readings.items in
    let r = reading c.args.b.now.readings.items in
    let n = c.args.records in
    IfSome_then c.over.result c.over.ensures.quotient
    (λ x e. e
    ∙ ap₂ (λ a b. a /ℚ b)
    (c.in_ok-minus.ensures
    ∙ ap₂ (λ a b. a -ℚ b)
    (c.in_ok-products.ensures
    ∙ ap₂ ◌*ℚ◌ c.count-count.ensures
    (c.in_ok-sum_of_products.ensures
    ∙ ap₂ (λ a b. total (λ t. reading a t *ℚ reading b t) (below n)) c.deref.ensures.value c.deref-2.ensures.value))
    (c.in_ok-sums.ensures
    ∙ ap₂ ◌*ℚ◌ (c.in_ok-sum_of.ensures ∙ ap (λ a. total (reading a) (below n)) c.deref-3.ensures.value)
    (c.in_ok-sum_of-2.ensures ∙ ap (λ a. total (reading a) (below n)) c.deref-4.ensures.value)))
    (c.in_ok-divisor.ensures
    ∙ ap₂ ◌*ℚ◌ (c.in_ok-square.ensures ∙ ap₂ ◌*ℚ◌ c.count-count.ensures c.count-count.ensures)
    (c.count.ensures ∙ ap (λ k. of_ℤ (pos k)) c.saturating_sub.ensures)))
