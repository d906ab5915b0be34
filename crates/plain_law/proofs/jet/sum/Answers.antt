use Rattle.plain_law.proofs.Jets.{sum_jet}
use Rattle.plain_law.proofs.jet.sum.Goals as goal

pub returns : goal.returns
returns c v d known f g h i = sum_jet v d known f g c.args.a c.args.b _ h i c.in_ok-value.ensures c.in_ok-slope.ensures
