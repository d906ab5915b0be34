use Rattle.adjoint_pass.proofs.Enclosed.{slopes_enclosed}
use Rattle.adjoint_pass.proofs.laws.sensitivities_are_enclosed.Goals as goal

pub returns : goal.returns
returns g c = λ same law qs o h k y there i q is s e. rw e at (slopes_enclosed same law qs o h k y there i q is)
