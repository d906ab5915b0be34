use Rattle.std.specs.Prelude.{nat_eq}
use Rattle.exact_law.specs.Model.{unit}
use Rattle.plain_law.proofs.Values.{value_of-jet, value_of-failure}
use Rattle.plain_law.proofs.evaluate.value.Goals as goal

pub returns-in_err-jet_at : goal.returns-in_err-jet_at
returns-in_err-jet_at c = value_of-failure c.args.model.now c.args.y (unit nat_eq c.args.y) _ _ c.from_residual.ensures.1 c.in_err-jet_at.ensures

pub returns : goal.returns
returns c = value_of-jet c.args.model.now c.args.y _ _ c.in_ok-jet_at.ensures
