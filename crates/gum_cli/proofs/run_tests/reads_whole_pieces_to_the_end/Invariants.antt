use Rattle.gum_cli.proofs.run_tests.reads_whole_pieces_to_the_end.Given as goal

-- the counter's ledger is the one that the blank stands for
abbrev pub ghosts-run_on : goal.ghosts-run_on
ghosts-run_on g a = record { name = a.blank.name; parts = a.blank.parts }
