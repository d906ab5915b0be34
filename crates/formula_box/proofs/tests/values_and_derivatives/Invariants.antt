use Rattle.formula_box.proofs.tests.values_and_derivatives.Given as goal

-- the counter's ledger is the one that the blank stands for
abbrev pub ghosts-rows : goal.ghosts-rows
ghosts-rows g a = record { name = a.blank.name; parts = a.blank.parts }
