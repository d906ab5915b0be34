use Rattle.adjoint_pass.proofs.RenamedValues.{evaluation_of-renamed}
use Rattle.adjoint_pass.proofs.laws.renaming_changes_no_evaluation.Goals as goal

pub returns : goal.returns
returns g c = λ same law same' rename qs rs h n there. evaluation_of-renamed same law same' rename qs rs h n there
