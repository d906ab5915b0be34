use Rattle.gum_cli.proofs.tests.ends_before_a_read_that_would_fail.Given as goal

-- the counter's ledger is the one that the blank stands for
abbrev pub ghosts-run_in_memory : goal.ghosts-run_in_memory
ghosts-run_in_memory g a = record { name = a.blank.name; parts = a.blank.parts }
