use Rattle.covariance.proofs.tests.full_correlation_cancels.Given as goal

abbrev pub ghosts-correlated : goal.ghosts-correlated
ghosts-correlated g a = record { name = a.blank.name; parts = a.blank.parts }
