use Rattle.fixed_interval.proofs.Enclosures.{outward_answer, outward_in_order, answer_has}
use Rattle.fixed_interval.proofs.Inclusions.{difference_in_order, difference_span_encloses}
use Rattle.fixed_interval.proofs.interval.sub.Goals as goal

pub from_ends-requires : goal.from_ends-requires
from_ends-requires g c =
    outward_in_order _ _ _ _ c.sub_down.ensures.exact c.sub_up.ensures.exact (difference_in_order _ _ c.a.invariant c.b.invariant)

pub returns-clause-span : goal.returns-clause-span
returns-clause-span g c = rw (← c.a.view_is, ← c.b.view_is)
    (outward_answer _ _ _ _ _ _ _ c.sub_down.ensures.exact c.sub_up.ensures.exact c.from_ends.ensures c.ok_or.ensures.value)

pub returns-clause-encloses : goal.returns-clause-encloses
returns-clause-encloses g c = λ q r h k. answer_has _ _ _ (returns-clause-span g c) _ (λ s e. difference_span_encloses _ _ s e q r h k)
