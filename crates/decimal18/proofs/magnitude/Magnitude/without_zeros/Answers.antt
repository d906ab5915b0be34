use Rattle.std.proofs.Common.{arith}
use Rattle.decimal18.proofs.magnitude.Magnitude.without_zeros.Goals as goal

pub returns-then-self-eq0-2-clause-same : goal.returns-then-self-eq0-2-clause-same
returns-then-self-eq0-2-clause-same c = record { zeros = c.args.self.places; after_point = omega arith; at_end = omega arith }
