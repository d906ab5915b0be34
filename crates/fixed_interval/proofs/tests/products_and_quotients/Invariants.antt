use Rattle.fixed_interval.proofs.tests.products_and_quotients.Given as goal

abbrev pub ghosts-products : goal.ghosts-products
ghosts-products g a = record { name = a.blank.name; parts = a.blank.parts }
