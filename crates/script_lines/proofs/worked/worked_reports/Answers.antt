use Rattle.std.proofs.Common.{refl}
use Rattle.std.specs.Fmt.{digits}
use Rattle.script_lines.proofs.worked.worked_reports.Goals as goal

pub returns-clause-whole : goal.returns-clause-whole
unfolding digits
returns-clause-whole c = refl

pub returns-clause-big : goal.returns-clause-big
unfolding digits
returns-clause-big c = refl

pub returns-clause-infinite : goal.returns-clause-infinite
unfolding digits
returns-clause-infinite c = refl

pub returns-clause-no_degrees : goal.returns-clause-no_degrees
unfolding digits
returns-clause-no_degrees c = refl

pub returns-clause-unsettled_degrees : goal.returns-clause-unsettled_degrees
unfolding digits
returns-clause-unsettled_degrees c = refl

pub returns-clause-report : goal.returns-clause-report
unfolding digits
returns-clause-report c = refl

pub returns-clause-tens : goal.returns-clause-tens
unfolding digits
returns-clause-tens c = refl

pub returns-clause-exact : goal.returns-clause-exact
unfolding digits
returns-clause-exact c = refl

pub returns-clause-unsettled : goal.returns-clause-unsettled
unfolding digits
returns-clause-unsettled c = refl

pub returns-clause-expanded : goal.returns-clause-expanded
unfolding digits
returns-clause-expanded c = refl

pub returns-clause-exact_expanded : goal.returns-clause-exact_expanded
unfolding digits
returns-clause-exact_expanded c = refl

pub returns-clause-unsettled_expanded : goal.returns-clause-unsettled_expanded
unfolding digits
returns-clause-unsettled_expanded c = refl
