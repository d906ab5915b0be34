use Rattle.exact_fraction.specs.NumberLaws.{≤floor_ℚ}
use Rattle.exact_fraction.proofs.OrderLaws.{floor_ℚ-not_above, floor_ℚ-of_ℤ}
use Rattle.exact_fraction.proofs.floor_is_the_greatest_whole_number_not_above.Goals as goal

pub returns : goal.returns
returns c = record {
  not_above = floor_ℚ-not_above;
  greatest = ≤floor_ℚ;
  of_whole = floor_ℚ-of_ℤ;
}
