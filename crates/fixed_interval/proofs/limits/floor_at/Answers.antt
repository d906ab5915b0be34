use Rattle.fixed_interval.proofs.Raising.{greater_rises, floored_span_encloses}
use Rattle.fixed_interval.proofs.limits.floor_at.Goals as goal

pub between-requires : goal.between-requires
between-requires g c = record {
  ordered = rw (c.greater.ensures, c.greater-2.ensures, c.lo.ensures.value, c.hi.ensures.value)
      (greater_rises _ _ c.args.floor c.lo.ensures.ordered.ordered);
}

pub returns-clause-encloses : goal.returns-clause-encloses
returns-clause-encloses g c = λ q h.
    rw (c.between.ensures, c.greater.ensures, c.greater-2.ensures, c.lo.ensures.value, c.hi.ensures.value)
    (floored_span_encloses c.args.a.now c.args.floor q h)
