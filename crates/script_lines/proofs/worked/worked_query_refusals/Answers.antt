use Rattle.std.proofs.Common.{refl}
use Rattle.script_lines.specs.Commands.{line_read}
use Rattle.script_lines.proofs.worked.worked_query_refusals.Goals as goal

pub returns-clause-no_query : goal.returns-clause-no_query
unfolding line_read
returns-clause-no_query c = refl

pub returns-clause-no_edit : goal.returns-clause-no_edit
unfolding line_read
returns-clause-no_edit c = refl

pub returns-clause-no_result : goal.returns-clause-no_result
unfolding line_read
returns-clause-no_result c = refl

pub returns-clause-no_names : goal.returns-clause-no_names
unfolding line_read
returns-clause-no_names c = refl

pub returns-clause-no_input : goal.returns-clause-no_input
unfolding line_read
returns-clause-no_input c = refl

pub returns-clause-no_input_name : goal.returns-clause-no_input_name
unfolding line_read
returns-clause-no_input_name c = refl

pub returns-clause-third_name : goal.returns-clause-third_name
unfolding line_read
returns-clause-third_name c = refl

pub returns-clause-no_variance : goal.returns-clause-no_variance
unfolding line_read
returns-clause-no_variance c = refl

pub returns-clause-no_variance_name : goal.returns-clause-no_variance_name
unfolding line_read
returns-clause-no_variance_name c = refl

pub returns-clause-no_second : goal.returns-clause-no_second
unfolding line_read
returns-clause-no_second c = refl

pub returns-clause-no_first_name : goal.returns-clause-no_first_name
unfolding line_read
returns-clause-no_first_name c = refl

pub returns-clause-third : goal.returns-clause-third
unfolding line_read
returns-clause-third c = refl

pub returns-clause-two_degrees : goal.returns-clause-two_degrees
unfolding line_read
returns-clause-two_degrees c = refl

pub returns-clause-report_level : goal.returns-clause-report_level
unfolding line_read
returns-clause-report_level c = refl

pub returns-clause-no_level : goal.returns-clause-no_level
unfolding line_read
returns-clause-no_level c = refl

pub returns-clause-level_first : goal.returns-clause-level_first
unfolding line_read
returns-clause-level_first c = refl

pub returns-clause-after_level : goal.returns-clause-after_level
unfolding line_read
returns-clause-after_level c = refl

pub returns-clause-other_level : goal.returns-clause-other_level
unfolding line_read
returns-clause-other_level c = refl

pub returns-clause-same_number : goal.returns-clause-same_number
unfolding line_read
returns-clause-same_number c = refl

pub returns-clause-level_word : goal.returns-clause-level_word
unfolding line_read
returns-clause-level_word c = refl

pub returns-clause-after_other_level : goal.returns-clause-after_other_level
unfolding line_read
returns-clause-after_other_level c = refl

pub returns-clause-no_rule : goal.returns-clause-no_rule
unfolding line_read
returns-clause-no_rule c = refl

pub returns-clause-rule_column : goal.returns-clause-rule_column
unfolding line_read
returns-clause-rule_column c = refl

pub returns-clause-no_decision_level : goal.returns-clause-no_decision_level
unfolding line_read
returns-clause-no_decision_level c = refl

pub returns-clause-decision_level : goal.returns-clause-decision_level
unfolding line_read
returns-clause-decision_level c = refl

pub returns-clause-after_decision : goal.returns-clause-after_decision
unfolding line_read
returns-clause-after_decision c = refl

pub returns-clause-no_budget : goal.returns-clause-no_budget
unfolding line_read
returns-clause-no_budget c = refl

pub returns-clause-two_budgets : goal.returns-clause-two_budgets
unfolding line_read
returns-clause-two_budgets c = refl
