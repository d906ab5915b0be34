use Rattle.std.specs.Prelude.{refl}
use std.Quotient.{/_rec, /_rec₂}
use Rattle.exact_fraction.specs.Fraction.{is_at_most}
use Rattle.exact_fraction.specs.Number.{is_at_most_ℚ}
use Rattle.decimal18.specs.Bound.{value_of}
use Rattle.decimal18.specs.OrderLaws.{not_at_most}
use Rattle.table_g2.proofs.laws.worked_conditions.Goals as goal

pub returns : goal.returns
unfolding is_at_most_ℚ is_at_most value_of /_rec₂ /_rec
returns c = record {
  one = record { at_least_one = record { holds = refl }; ordered = record { holds = refl } };
  without_end = record { at_least_one = record { holds = refl }; ordered = tt };
  none = tt;
  infinite = tt;
  below_one = λ h. not_at_most _ _ refl h.at_least_one;
  turned = λ h. not_at_most _ _ refl h.ordered;
}
