use Rattle.adjoint_pass.proofs.Renamed.{depends_on-renamed, sensitivity_of-renamed, gradient_of-renamed, has_gradient-renamed}
use Rattle.adjoint_pass.proofs.laws.renaming_changes_no_sensitivity.Goals as goal

pub returns-clause-cone : goal.returns-clause-cone
returns-clause-cone g c = λ same law same' rename qs rs h y n py p. depends_on-renamed same law same' rename qs rs h y n py p

pub returns-clause-sensitivity : goal.returns-clause-sensitivity
returns-clause-sensitivity g c = λ same law same' rename qs rs h y n py p. sensitivity_of-renamed same law same' rename qs rs h y n py p

pub returns-clause-gradient : goal.returns-clause-gradient
returns-clause-gradient g c = λ same law same' rename qs rs h y n py p. gradient_of-renamed same law same' rename qs rs h y n py p

pub returns-clause-defined : goal.returns-clause-defined
returns-clause-defined g c = λ same law same' rename qs rs h y py. has_gradient-renamed same law same' rename qs rs h y py
