use Rattle.fixed_interval.proofs.Raising.{brought_rises, cut_span_encloses}
use Rattle.fixed_interval.proofs.limits.cut.Goals as goal

pub between-requires : goal.between-requires
between-requires g c = record {
  ordered = rw (c.lesser.ensures, c.lesser-2.ensures, c.greater.ensures, c.greater-2.ensures, c.lo.ensures.value, c.hi.ensures.value)
      (brought_rises c.args.low c.args.high _ _ c.lo.ensures.ordered.ordered);
}

pub returns-clause-encloses : goal.returns-clause-encloses
returns-clause-encloses g c = λ q h.
    rw (c.between.ensures, c.lesser.ensures, c.lesser-2.ensures, c.greater.ensures, c.greater-2.ensures, c.lo.ensures.value, c.hi.ensures.value)
    (cut_span_encloses c.args.a.now c.args.low c.args.high q h)
