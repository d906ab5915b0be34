use Rattle.plain_law.proofs.Values.{derivative_of-jet, derivative_of-failure}
use Rattle.plain_law.proofs.evaluate.derivative.Goals as goal

pub returns-in_err-jet_at : goal.returns-in_err-jet_at
returns-in_err-jet_at c = derivative_of-failure c.args.model.now c.args.y c.args.i _ _ c.from_residual.ensures.1 c.in_err-jet_at.ensures

pub returns : goal.returns
returns c = derivative_of-jet c.args.model.now c.args.y c.args.i _ c.in_ok-jet_at.ensures
