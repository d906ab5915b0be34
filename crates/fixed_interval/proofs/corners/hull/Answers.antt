use Rattle.fixed_interval.proofs.Hulls.{hull_in_order}
use Rattle.fixed_interval.proofs.corners.hull.Goals as goal

pub between-requires : goal.between-requires
between-requires c = record {
  ordered = rw (c.lesser.ensures, c.greater.ensures, c.lo.ensures.value, c.lo-in-Some-Some.ensures.value, c.hi.ensures.value, c.hi-in-Some-Some.ensures.value)
      (hull_in_order c.in-Some-Some.a c.in-Some-Some.b c.lo.ensures.ordered);
}
