use Rattle.exact_fraction.specs.NumberLaws.{≼-of_≤ℚ, ≤ℚ-of_≼}
use Rattle.exact_fraction.proofs.order_is_that_of_the_fractions.Goals as goal

pub returns-clause-of_fractions : goal.returns-clause-of_fractions
returns-clause-of_fractions c = λ q r. (≼-of_≤ℚ q r, ≤ℚ-of_≼ q r)
