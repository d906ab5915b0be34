use Rattle.fixed_interval.proofs.products.+whole_power.Given as goal

abbrev pub decreases-whole_power : goal.decreases-whole_power
decreases-whole_power g l = l.k
