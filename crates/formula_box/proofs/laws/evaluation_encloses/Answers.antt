use Rattle.formula_box.proofs.Enclosing.{formula_encloses}
use Rattle.formula_box.proofs.laws.evaluation_encloses.Goals as goal

pub returns : goal.returns
returns c = λ given v known all f h s e. formula_encloses given v known all f h s e
