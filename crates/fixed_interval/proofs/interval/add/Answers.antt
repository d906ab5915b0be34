use Rattle.std.proofs.Common.{sym, ◌∙◌}
use Rattle.fixed_interval.proofs.Enclosures.{answer_has, sum_span_encloses}
use Rattle.fixed_interval.proofs.interval.add.Goals as goal

pub returns-clause-encloses : goal.returns-clause-encloses
returns-clause-encloses g c = λ q r h k.
    answer_has _ _ _ c.ok_or.ensures.value _ (λ s e. sum_span_encloses _ _ s (sym c.sums.ensures ∙ e) q r h k)
