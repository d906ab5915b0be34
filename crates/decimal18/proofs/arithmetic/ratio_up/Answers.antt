use Rattle.decimal18.proofs.Answered.{up_defined}
use Rattle.decimal18.proofs.arithmetic.ratio_up.Goals as goal

pub returns-clause-defined : goal.returns-clause-defined
returns-clause-defined c = up_defined _ _ c.scaled_ratio.ensures
