use Rattle.type_a.proofs.Sizes.{power_small}
use Rattle.type_a.proofs.coefficients.power_of_ten.Goals as goal

pub returns-clause-size : goal.returns-clause-size
returns-clause-size c = power_small c.args.exponent c.pow.result c.requires c.pow.ensures
