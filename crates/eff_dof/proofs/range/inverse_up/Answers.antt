use Rattle.decimal18.specs.Down.{up}
use Rattle.eff_dof.proofs.Ranges.{inverse_is}
use Rattle.eff_dof.proofs.range.inverse_up.Goals as goal

pub returns : goal.returns
returns c =
    inverse_is up c.args.number c.whole-2.result c.is_zero.result c.is_zero.ensures c.if-is_zero.false c.whole-2.ensures
    c.div_up.result c.div_up.ensures.exact c.at_most.result c.at_most.ensures
