use Rattle.std.proofs.Common.{pos}
use Rattle.decimal18.proofs.Values.{value-whole}
use Rattle.type_b.proofs.variances.variance.Goals as goal

pub returns-in-Exact-clause-encloses : goal.returns-in-Exact-clause-encloses
returns-in-Exact-clause-encloses g c = rw (c.in-Exact.is, ← value-whole (pos 0), ← c.whole.ensures) c.point.ensures.encloses
