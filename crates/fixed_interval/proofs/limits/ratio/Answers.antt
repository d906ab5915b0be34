use Rattle.exact_fraction.specs.NumberLaws.{≤ℚ_refl}
use Rattle.fixed_interval.proofs.Enclosures.{outward_answer, outward_in_order, answer_has, outward_encloses}
use Rattle.fixed_interval.proofs.limits.ratio.Goals as goal

pub from_ends-requires : goal.from_ends-requires
from_ends-requires g c = outward_in_order _ _ _ _ c.ratio_down.ensures.exact c.ratio_up.ensures.exact (≤ℚ_refl _)

pub returns-clause-span : goal.returns-clause-span
returns-clause-span g c =
    outward_answer _ _ _ _ _ _ _ c.ratio_down.ensures.exact c.ratio_up.ensures.exact c.from_ends.ensures c.ok_or.ensures.value

pub returns-clause-encloses : goal.returns-clause-encloses
returns-clause-encloses g c = answer_has _ _ _ (returns-clause-span g c) _ (λ s e. outward_encloses _ _ s e _ (≤ℚ_refl _) (≤ℚ_refl _))
