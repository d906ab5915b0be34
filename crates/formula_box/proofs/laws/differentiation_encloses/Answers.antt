use Rattle.formula_box.proofs.Slopes.{partial_encloses}
use Rattle.formula_box.proofs.laws.differentiation_encloses.Goals as goal

pub returns : goal.returns
returns c = λ given v known all n f h d e. partial_encloses given v known all n f h d e
