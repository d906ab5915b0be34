use Rattle.decimal18.proofs.Answered.{down_defined}
use Rattle.decimal18.proofs.arithmetic.mul_down.Goals as goal

pub returns-clause-defined : goal.returns-clause-defined
returns-clause-defined c = down_defined _ _ c.product.ensures
