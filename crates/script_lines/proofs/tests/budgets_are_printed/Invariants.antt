use Rattle.script_lines.proofs.tests.budgets_are_printed.Given as goal

abbrev pub ghosts-print_budget_of_one : goal.ghosts-print_budget_of_one
ghosts-print_budget_of_one g a = record { name = a.blank.name; parts = a.blank.parts }
