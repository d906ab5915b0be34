use Rattle.type_b.proofs.tests.deviations_of_shapes.Given as goal

abbrev pub ghosts-deviations : goal.ghosts-deviations
ghosts-deviations g a = record { name = a.blank.name; parts = a.blank.parts }
