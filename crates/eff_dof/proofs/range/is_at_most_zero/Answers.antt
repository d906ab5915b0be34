use Rattle.eff_dof.proofs.Ranges.{above_is}
use Rattle.eff_dof.proofs.range.is_at_most_zero.Goals as goal

pub returns : goal.returns
returns c = above_is c.args.number c.whole.result c.is_at_most.result c.whole.ensures c.is_at_most.ensures
