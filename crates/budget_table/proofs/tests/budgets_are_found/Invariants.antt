use Rattle.budget_table.proofs.tests.budgets_are_found.Given as goal

abbrev pub ghosts-budgets : goal.ghosts-budgets
ghosts-budgets g a = record { name = a.blank.name; parts = a.blank.parts }
