use Rattle.covariance.proofs.Exact.{regular-sound}
use Rattle.covariance.proofs.Enclosed.{group_variance_holds, variance_is_enclosed, covariance_is_enclosed}
use Rattle.covariance.proofs.laws.spans_enclose_the_law.Goals as goal

pub returns-clause-group : goal.returns-clause-group
returns-clause-group g c = group_variance_holds

pub returns-clause-variance : goal.returns-clause-variance
returns-clause-variance g c = variance_is_enclosed

pub returns-clause-covariance : goal.returns-clause-covariance
returns-clause-covariance g c = covariance_is_enclosed

pub returns-clause-sound : goal.returns-clause-sound
returns-clause-sound g c = regular-sound
