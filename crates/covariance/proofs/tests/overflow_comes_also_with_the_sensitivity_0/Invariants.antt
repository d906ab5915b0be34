use Rattle.covariance.proofs.tests.overflow_comes_also_with_the_sensitivity_0.Given as goal

abbrev pub ghosts-great : goal.ghosts-great
ghosts-great g a = record { name = a.blank.name; parts = a.blank.parts }
