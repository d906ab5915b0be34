use Rattle.covariance.specs.Groups.{group_of}
use Rattle.covariance.proofs.Enclosed.{within_encloses}
use Rattle.covariance.proofs.group.member_variance.Goals as goal

pub returns-clause-encloses : goal.returns-clause-encloses
returns-clause-encloses g c =
    within_encloses (group_of c.args.group.now) c.requires.regular c.args.at c.args.at _ c.covariance.ensures.span
