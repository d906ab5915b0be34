use Rattle.edit_session.proofs.law_tests.replies_follow_the_law.Given as goal

abbrev pub ghosts-run_all : goal.ghosts-run_all
ghosts-run_all g a = record { name = a.blank.name; parts = a.blank.parts }
