use Rattle.type_a.proofs.tests.large_sums_are_found.Given as goal

abbrev pub ghosts-large_sums : goal.ghosts-large_sums
ghosts-large_sums g a = record { name = a.blank.name; parts = a.blank.parts }
