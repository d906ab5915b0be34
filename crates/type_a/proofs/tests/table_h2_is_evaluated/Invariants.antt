use Rattle.type_a.proofs.tests.table_h2_is_evaluated.Given as goal

abbrev pub ghosts-table_h2 : goal.ghosts-table_h2
ghosts-table_h2 g a = record { name = a.blank.name; parts = a.blank.parts }
