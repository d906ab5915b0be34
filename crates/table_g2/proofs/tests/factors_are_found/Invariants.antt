use Rattle.table_g2.proofs.tests.factors_are_found.Given as goal

abbrev pub ghosts-factors : goal.ghosts-factors
ghosts-factors g a = record { name = a.blank.name; parts = a.blank.parts }
