use Rattle.plain_law.proofs.Jets.{difference_jet}
use Rattle.plain_law.proofs.jet.difference.Goals as goal

pub returns : goal.returns
returns c v d known f g h i = difference_jet v d known f g c.args.a c.args.b _ h i c.in_ok-value.ensures c.in_ok-slope.ensures
