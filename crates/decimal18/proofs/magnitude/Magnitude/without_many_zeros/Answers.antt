use Rattle.decimal18.proofs.Zeros.{zeros_twice}
use Rattle.decimal18.proofs.magnitude.Magnitude.without_many_zeros.Goals as goal

pub returns-clause-same : goal.returns-clause-same
returns-clause-same c =
    zeros_twice _ _ _ _ _ _ c.shortened-number.ensures.same
    (zeros_twice _ _ _ _ _ _ c.shortened-number-2.ensures.same c.shortened.ensures.same)
