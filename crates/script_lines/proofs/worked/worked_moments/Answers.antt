use Rattle.std.proofs.Common.{refl}
use Rattle.std.specs.Fmt.{digits}
use Rattle.script_lines.proofs.worked.worked_moments.Goals as goal

pub returns-clause-variance : goal.returns-clause-variance
unfolding digits
returns-clause-variance c = refl

pub returns-clause-covariance : goal.returns-clause-covariance
unfolding digits
returns-clause-covariance c = refl

pub returns-clause-negative : goal.returns-clause-negative
unfolding digits
returns-clause-negative c = refl

pub returns-clause-one : goal.returns-clause-one
unfolding digits
returns-clause-one c = refl

pub returns-clause-no_hundredths : goal.returns-clause-no_hundredths
unfolding digits
returns-clause-no_hundredths c = refl

pub returns-clause-no_coefficient : goal.returns-clause-no_coefficient
unfolding digits
returns-clause-no_coefficient c = refl

pub returns-clause-unsettled : goal.returns-clause-unsettled
unfolding digits
returns-clause-unsettled c = refl
