use Rattle.fixed_interval.proofs.tests.powers_of_spans.Given as goal

abbrev pub ghosts-powers : goal.ghosts-powers
ghosts-powers g a = record { name = a.blank.name; parts = a.blank.parts }
