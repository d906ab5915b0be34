use Rattle.covariance.proofs.Renamed.{meets-renamed, group_variance-renamed, variance-renamed, covariance-renamed}
use Rattle.covariance.proofs.model_laws.renaming_changes_no_span.Goals as goal

pub returns-clause-meets : goal.returns-clause-meets
returns-clause-meets g c = meets-renamed

pub returns-clause-group : goal.returns-clause-group
returns-clause-group g c = group_variance-renamed

pub returns-clause-variance : goal.returns-clause-variance
returns-clause-variance g c = variance-renamed

pub returns-clause-covariance : goal.returns-clause-covariance
returns-clause-covariance g c = covariance-renamed
