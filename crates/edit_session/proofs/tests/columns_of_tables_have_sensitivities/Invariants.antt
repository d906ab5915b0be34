use Rattle.edit_session.proofs.tests.columns_of_tables_have_sensitivities.Given as goal

abbrev pub ghosts-slopes : goal.ghosts-slopes
ghosts-slopes g a = record { name = a.blank.name; parts = a.blank.parts }
