use Rattle.eff_dof.proofs.GroupShares.{degrees_in_range}
use Rattle.eff_dof.proofs.OfModels.{degrees_in_model}
use Rattle.eff_dof.proofs.group_laws.degrees_are_enclosed.Goals as goal

pub returns-clause-allowed : goal.returns-clause-allowed
returns-clause-allowed g c = λ same is model groups a d k y h nu e. degrees_in_model same model k is groups a d y h nu e

pub returns-clause-degrees : goal.returns-clause-degrees
returns-clause-degrees g c = λ groups d y nu e. degrees_in_range y groups d nu e
