use Rattle.type_b.proofs.tests.variances_of_shapes.Given as goal

abbrev pub ghosts-variances : goal.ghosts-variances
ghosts-variances g a = record { name = a.blank.name; parts = a.blank.parts }
