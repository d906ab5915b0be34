use Rattle.adjoint_pass.proofs.Gradients.{gradient_encloses}
use Rattle.adjoint_pass.proofs.laws.gradients_are_enclosed.Goals as goal

pub returns : goal.returns
returns g c = λ same law qs o h k y there defined i q is. gradient_encloses same law qs o h k y there defined i q is
