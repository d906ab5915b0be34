use Rattle.plain_law.proofs.Values.{exact_slope-answer}
use Rattle.plain_law.proofs.propagation.slope.Goals as goal

pub returns-in-Ok : goal.returns-in-Ok
returns-in-Ok c = exact_slope-answer c.args.model.now c.args.y c.args.i c.in-Ok.slope c.in-Ok.ensures
