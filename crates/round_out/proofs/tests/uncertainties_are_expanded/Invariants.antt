use Rattle.round_out.proofs.tests.uncertainties_are_expanded.Given as goal

abbrev pub ghosts-expansions : goal.ghosts-expansions
ghosts-expansions g a = record { name = a.blank.name; parts = a.blank.parts }
