use Rattle.edit_session.proofs.tests.sessions_keep_the_past_and_marks.Given as goal

abbrev pub ghosts-run_all : goal.ghosts-run_all
ghosts-run_all g a = record { name = a.blank.name; parts = a.blank.parts }
