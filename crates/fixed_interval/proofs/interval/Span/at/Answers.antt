use Rattle.exact_fraction.specs.NumberLaws.{≤ℚ_refl}
use Rattle.fixed_interval.proofs.interval.Span.at.Goals as goal

pub invariant_of-result : goal.invariant_of-result
invariant_of-result c = record { ordered = ≤ℚ_refl _ }
