use Rattle.type_b.proofs.tests.variances_out_of_range.Given as goal

abbrev pub ghosts-overflows : goal.ghosts-overflows
ghosts-overflows g a = record { name = a.blank.name; parts = a.blank.parts }
