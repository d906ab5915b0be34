use Rattle.std.proofs.Common.{refl}
use Rattle.fixed_interval.proofs.interval.Span.from_ends.Goals as goal

pub invariant_of-result : goal.invariant_of-result
invariant_of-result c =
    c.requires (record { lo = c.in-Some-Some.lo; hi = c.in-Some-Some.hi }) (rw (c.in-Some-Some.is-0, c.in-Some-Some.is-1) refl)
