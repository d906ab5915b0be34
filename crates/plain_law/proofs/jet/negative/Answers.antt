use Rattle.plain_law.proofs.Jets.{negative_jet}
use Rattle.plain_law.proofs.jet.negative.Goals as goal

pub returns : goal.returns
returns c v d known f h = negative_jet v d known f c.args.a _ h c.negated.ensures c.negated-2.ensures
