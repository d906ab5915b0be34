use Rattle.covariance.proofs.tests.shared_inputs_count_in_both.Given as goal

abbrev pub ghosts-shared : goal.ghosts-shared
ghosts-shared g a = record { name = a.blank.name; parts = a.blank.parts }
