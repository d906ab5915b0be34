use Rattle.std.proofs.Common.{refl}
use Rattle.script_lines.specs.Commands.{line_read}
use Rattle.script_lines.proofs.worked.worked_queries.Goals as goal

pub returns-clause-value : goal.returns-clause-value
unfolding line_read
returns-clause-value c = refl

pub returns-clause-column : goal.returns-clause-column
unfolding line_read
returns-clause-column c = refl

pub returns-clause-variance : goal.returns-clause-variance
unfolding line_read
returns-clause-variance c = refl

pub returns-clause-covariance : goal.returns-clause-covariance
unfolding line_read
returns-clause-covariance c = refl

pub returns-clause-correlation : goal.returns-clause-correlation
unfolding line_read
returns-clause-correlation c = refl

pub returns-clause-sensitivity : goal.returns-clause-sensitivity
unfolding line_read
returns-clause-sensitivity c = refl

pub returns-clause-degrees : goal.returns-clause-degrees
unfolding line_read
returns-clause-degrees c = refl

pub returns-clause-report : goal.returns-clause-report
unfolding line_read
returns-clause-report c = refl

pub returns-clause-expanded : goal.returns-clause-expanded
unfolding line_read
returns-clause-expanded c = refl

pub returns-clause-expanded_9545 : goal.returns-clause-expanded_9545
unfolding line_read
returns-clause-expanded_9545 c = refl

pub returns-clause-expanded_99 : goal.returns-clause-expanded_99
unfolding line_read
returns-clause-expanded_99 c = refl

pub returns-clause-dump : goal.returns-clause-dump
unfolding line_read
returns-clause-dump c = refl

pub returns-clause-at_value : goal.returns-clause-at_value
unfolding line_read
returns-clause-at_value c = refl

pub returns-clause-at_sensitivity : goal.returns-clause-at_sensitivity
unfolding line_read
returns-clause-at_sensitivity c = refl

pub returns-clause-at_correlation : goal.returns-clause-at_correlation
unfolding line_read
returns-clause-at_correlation c = refl

pub returns-clause-at_expanded : goal.returns-clause-at_expanded
unfolding line_read
returns-clause-at_expanded c = refl

pub returns-clause-at_dump : goal.returns-clause-at_dump
unfolding line_read
returns-clause-at_dump c = refl

pub returns-clause-decision : goal.returns-clause-decision
unfolding line_read
returns-clause-decision c = refl

pub returns-clause-budget : goal.returns-clause-budget
unfolding line_read
returns-clause-budget c = refl

pub returns-clause-at_decision : goal.returns-clause-at_decision
unfolding line_read
returns-clause-at_decision c = refl

pub returns-clause-at_budget : goal.returns-clause-at_budget
unfolding line_read
returns-clause-at_budget c = refl
