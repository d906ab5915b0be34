use Rattle.std.proofs.Common.{◌∙◌, ap, ap₂}
use Rattle.std.proofs.lemmas.Option.{IfSome_then}
use Rattle.exact_fraction.specs.Number.{◌/ℚ◌}
use Rattle.exact_fraction.specs.Sums.{total, below}
use Rattle.exact_law.specs.Law.{mean}
use Rattle.plain_law.specs.Groups.{reading}
use Rattle.plain_law.proofs.covariances.mean.Goals as goal

pub returns : goal.returns
unfolding mean
returns c =
    IfSome_then c.over.result c.over.ensures.quotient
    (λ r e. e ∙ ap₂ (λ a b. a /ℚ b) (c.in_ok-sum_of.ensures ∙ ap (λ a. total (reading a) (below c.args.records)) c.deref.ensures.value) c.count.ensures)
