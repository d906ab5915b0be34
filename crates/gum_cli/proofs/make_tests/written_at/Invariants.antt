use Rattle.gum_cli.proofs.make_tests.written_at.Given as goal

-- the counter's ledger is the one that the blank stands for
abbrev pub ghosts-run_streams : goal.ghosts-run_streams
ghosts-run_streams a = record { name = a.blank.name; parts = a.blank.parts }
