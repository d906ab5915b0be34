use Rattle.decimal18.specs.Down.{down}
use Rattle.eff_dof.proofs.Ranges.{inverse_is}
use Rattle.eff_dof.proofs.range.inverse_down.Goals as goal

pub returns : goal.returns
returns c =
    inverse_is down c.args.number c.whole-2.result c.is_zero.result c.is_zero.ensures c.if-is_zero.false c.whole-2.ensures
    c.div_down.result c.div_down.ensures.exact c.at_most.result c.at_most.ensures
