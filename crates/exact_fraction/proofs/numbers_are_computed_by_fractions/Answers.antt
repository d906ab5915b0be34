use Rattle.std.specs.Prelude.{refl}
use std.Quotient.{/_rec, /_rec₂}
use Rattle.exact_fraction.specs.Number.{◌+ℚ◌, ◌*ℚ◌, neg_ℚ, inv_ℚ}
use Rattle.exact_fraction.proofs.numbers_are_computed_by_fractions.Goals as goal

pub returns : goal.returns
unfolding ◌+ℚ◌ ◌*ℚ◌ neg_ℚ inv_ℚ /_rec₂ /_rec
returns c = record {
  sum = λ q r. refl;
  product = λ q r. refl;
  negative = λ q. refl;
  inverse_of = λ q. refl;
}
