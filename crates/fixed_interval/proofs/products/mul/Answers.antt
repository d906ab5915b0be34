use Rattle.std.proofs.Common.{sym, ◌∙◌}
use Rattle.fixed_interval.proofs.Enclosures.{answer_has}
use Rattle.fixed_interval.proofs.Inclusions.{product_span_encloses}
use Rattle.fixed_interval.proofs.products.mul.Goals as goal

pub returns-clause-encloses : goal.returns-clause-encloses
returns-clause-encloses g c = λ q r h k.
    answer_has _ _ _ c.ok_or.ensures.value _ (λ s e. product_span_encloses _ _ s (sym c.products.ensures ∙ e) q r h k)
