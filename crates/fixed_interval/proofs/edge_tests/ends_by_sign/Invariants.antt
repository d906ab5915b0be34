use Rattle.fixed_interval.proofs.edge_tests.ends_by_sign.Given as goal

abbrev pub ghosts-signs : goal.ghosts-signs
ghosts-signs g a = record { name = a.blank.name; parts = a.blank.parts }
