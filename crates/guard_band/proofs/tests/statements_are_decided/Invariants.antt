use Rattle.guard_band.proofs.tests.statements_are_decided.Given as goal

abbrev pub ghosts-statements : goal.ghosts-statements
ghosts-statements g a = record { name = a.blank.name; parts = a.blank.parts }
