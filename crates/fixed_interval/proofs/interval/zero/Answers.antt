use Rattle.exact_fraction.specs.NumberLaws.{≤ℚ_refl}
use Rattle.fixed_interval.proofs.interval.zero.Goals as goal

pub invariant_of-result : goal.invariant_of-result
invariant_of-result c = record { ordered = ≤ℚ_refl _ }

pub returns-clause-encloses : goal.returns-clause-encloses
returns-clause-encloses c = rw c.whole-zero.ensures (record { low = ≤ℚ_refl _; high = ≤ℚ_refl _ })
