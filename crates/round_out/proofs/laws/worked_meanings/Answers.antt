use Rattle.std.specs.Prelude.{pos, negsuc, refl}
use Rattle.std.proofs.Common.{arith, inl, inr}
use Rattle.std.proofs.lemmas.Int.{ints}
use std.Quotient.{/_rec, /_rec₂}
use Rattle.exact_fraction.specs.Fraction.{◌⊗◌, inverse, is_at_most}
use Rattle.exact_fraction.specs.Number.{of_ℤ, ◌*ℚ◌, inv_ℚ, is_at_most_ℚ}
use Rattle.exact_fraction.specs.NumberLaws.{≤ℚ_same}
use Rattle.exact_fraction.proofs.Strict.{below_not}
use Rattle.round_out.proofs.laws.worked_meanings.Goals as goal

pub returns-clause-negative : goal.returns-clause-negative
unfolding ◌*ℚ◌ inv_ℚ is_at_most_ℚ ◌⊗◌ inverse is_at_most /_rec₂ /_rec
returns-clause-negative c = record {
  first = record { not_above = refl };
  second = record { not_above = refl };
  magnitude = record { low = record { holds = refl }; high = record { not_above = refl } };
  positive = λ h. absurd (omega (arith, ints));
  negative = λ h. record { holds = refl };
}

pub returns-clause-other_sign : goal.returns-clause-other_sign
unfolding is_at_most_ℚ is_at_most /_rec₂ /_rec
returns-clause-other_sign c = λ h. below_not (of_ℤ (negsuc 0)) (of_ℤ (pos 0)) (record { not_above = refl }) (h.positive (omega (arith, ints)))

pub returns-clause-above_zero : goal.returns-clause-above_zero
unfolding is_at_most_ℚ is_at_most /_rec₂ /_rec
returns-clause-above_zero c = λ h. elim h [
  | inl e ↦ below_not (of_ℤ (pos 0)) (of_ℤ (pos 1)) (record { not_above = refl }) (≤ℚ_same _ _ e)
  | inr e ↦ below_not (of_ℤ (pos 0)) (of_ℤ (pos 4)) (record { not_above = refl }) (≤ℚ_same _ _ e)
]

pub returns-clause-none : goal.returns-clause-none
returns-clause-none c = inr refl
