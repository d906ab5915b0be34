use Rattle.gum_cli.proofs.make_tests.made_into.Given as goal

-- the counter's ledger is the one that the blank stands for
abbrev pub ghosts-run_at : goal.ghosts-run_at
ghosts-run_at a = record { name = a.blank.name; parts = a.blank.parts }
