use Rattle.std.proofs.Common.{refl}
use Rattle.sheet_model.proofs.laws.worked_quantities.Goals as goal

pub returns : goal.returns
returns c = refl
