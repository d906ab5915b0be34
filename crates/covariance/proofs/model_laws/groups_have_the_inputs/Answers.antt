use Rattle.covariance.proofs.Models.{members_are_inputs, are_sound}
use Rattle.covariance.proofs.model_laws.groups_have_the_inputs.Goals as goal

pub returns-clause-inputs : goal.returns-clause-inputs
returns-clause-inputs g c = members_are_inputs

pub returns-clause-sound : goal.returns-clause-sound
returns-clause-sound g c = are_sound
