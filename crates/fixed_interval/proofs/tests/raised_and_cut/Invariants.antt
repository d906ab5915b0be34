use Rattle.fixed_interval.proofs.tests.raised_and_cut.Given as goal

abbrev pub ghosts-limits : goal.ghosts-limits
ghosts-limits g a = record { name = a.blank.name; parts = a.blank.parts }
