use Rattle.std.proofs.Common.{rules}
use Rattle.exact_law.proofs.RoundingLaws.{at_place-between}
use Rattle.decimal18.specs.Bound.{value_of}
use Rattle.round_out.proofs.estimate.estimate_at.Goals as goal

pub returns-clause-holds : goal.returns-clause-holds
returns-clause-holds c =
    λ x h. at_place-between (value_of c.args.y.now.lo) x (value_of c.args.y.now.hi) c.args.e _ h.low h.high (search rules) (search rules)
