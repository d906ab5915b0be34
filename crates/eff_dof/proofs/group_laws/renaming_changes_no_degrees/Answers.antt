use Rattle.eff_dof.proofs.OfModels.{known-renamed}
use Rattle.eff_dof.proofs.group_laws.renaming_changes_no_degrees.Goals as goal

pub returns : goal.returns
returns g c = λ f groups y z o. known-renamed f groups y z o
