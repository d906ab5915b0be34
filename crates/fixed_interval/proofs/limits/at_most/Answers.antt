use Rattle.fixed_interval.proofs.Raising.{comparison_yes, comparison_unsettled, comparison_no, all_at_most, none_at_most}
use Rattle.fixed_interval.proofs.limits.at_most.Goals as goal

pub returns-then-is_at_most-clause-answer : goal.returns-then-is_at_most-clause-answer
returns-then-is_at_most-clause-answer c = comparison_yes _ _ (cc)

pub returns-then-is_at_most-clause-yes : goal.returns-then-is_at_most-clause-yes
returns-then-is_at_most-clause-yes c = λ _. all_at_most _ _ (cc)

pub returns-then-is_at_most-2-clause-answer : goal.returns-then-is_at_most-2-clause-answer
returns-then-is_at_most-2-clause-answer c = comparison_unsettled _ _ (cc) (cc)

pub returns-clause-answer : goal.returns-clause-answer
returns-clause-answer c = comparison_no _ _ (cc) (cc)

pub returns-clause-no : goal.returns-clause-no
returns-clause-no c = λ _. none_at_most _ _ (cc)
