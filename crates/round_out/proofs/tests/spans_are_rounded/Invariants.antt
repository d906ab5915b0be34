use Rattle.round_out.proofs.tests.spans_are_rounded.Given as goal

abbrev pub ghosts-spans : goal.ghosts-spans
ghosts-spans g a = record { name = a.blank.name; parts = a.blank.parts }
