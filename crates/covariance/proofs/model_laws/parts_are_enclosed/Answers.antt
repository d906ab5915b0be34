use Rattle.covariance.proofs.Models.{part_holds, no_part_of}
use Rattle.covariance.proofs.NotNegative.{group_variance-from_zero}
use Rattle.covariance.proofs.model_laws.parts_are_enclosed.Goals as goal

pub returns-clause-part : goal.returns-clause-part
returns-clause-part g c = part_holds

pub returns-clause-outside : goal.returns-clause-outside
returns-clause-outside g c = no_part_of

pub returns-clause-not_negative : goal.returns-clause-not_negative
returns-clause-not_negative g c = group_variance-from_zero
