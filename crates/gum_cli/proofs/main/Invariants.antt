use Rattle.gum_cli.proofs.main.Given as goal

-- the counter's ledger is the one that the blank stands for
abbrev pub ghosts-start : goal.ghosts-start
ghosts-start a = record { name = a.blank.name; parts = a.blank.parts }
