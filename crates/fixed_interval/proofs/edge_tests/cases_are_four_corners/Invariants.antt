use Rattle.fixed_interval.proofs.edge_tests.cases_are_four_corners.Given as goal

abbrev pub ghosts-corners : goal.ghosts-corners
ghosts-corners g a = record { name = a.blank.name; parts = a.blank.parts }
