use Rattle.std.proofs.lemmas.Bool.{false≢true}
use Rattle.eff_dof.proofs.group_laws.worked_group_degrees.Goals as goal

pub returns-clause-one : goal.returns-clause-one
returns-clause-one c = λ h. false≢true h.0

pub returns-clause-percent : goal.returns-clause-percent
returns-clause-percent c = λ h. false≢true (h.1).0
