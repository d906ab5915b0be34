use Rattle.fixed_interval.proofs.Negatives.{negatives_in_order, negative_span_encloses}
use Rattle.fixed_interval.proofs.interval.neg.Goals as goal

pub invariant_of-result : goal.invariant_of-result
invariant_of-result g c = record {
  ordered = rw (c.negated.ensures, c.negated-2.ensures) (negatives_in_order _ _ c.a.invariant.ordered);
}

pub returns-clause-encloses : goal.returns-clause-encloses
returns-clause-encloses g c = λ q h.
    rw (c.negated.ensures, c.negated-2.ensures) (negative_span_encloses _ q (rw c.a.view_is h))
