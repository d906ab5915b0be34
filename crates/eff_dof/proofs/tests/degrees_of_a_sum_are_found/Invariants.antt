use Rattle.eff_dof.proofs.tests.degrees_of_a_sum_are_found.Given as goal

abbrev pub ghosts-sum_of_two : goal.ghosts-sum_of_two
ghosts-sum_of_two g a = record { name = a.blank.name; parts = a.blank.parts }
