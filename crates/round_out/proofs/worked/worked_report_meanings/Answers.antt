use Rattle.std.specs.Prelude.{◌≡◌, pos, negsuc, refl}
use Rattle.std.proofs.Common.{arith, sym, ◌∙◌}
use Rattle.std.proofs.lemmas.Int.{ints}
use std.Quotient.{/_rec, /_rec₂}
use Rattle.exact_fraction.specs.Fraction.{◌⊕◌, ◌⊗◌, inverse, is_at_most, floor}
use Rattle.exact_fraction.specs.Number.{of_ℤ, ◌+ℚ◌, ◌*ℚ◌, inv_ℚ, is_at_most_ℚ, floor_ℚ}
use Rattle.exact_fraction.specs.NumberLaws.{≤ℚ_same}
use Rattle.exact_fraction.specs.Powers.{power}
use Rattle.exact_fraction.proofs.Strict.{below_not}
use Rattle.decimal18.specs.Bound.{scaled, value_of}
use Rattle.exact_law.specs.Rounding.{ten_to, at_place, scaled_square}
use Rattle.round_out.proofs.worked.worked_report_meanings.Goals as goal

pub returns-clause-rounded : goal.returns-clause-rounded
unfolding value_of ◌+ℚ◌ ◌*ℚ◌ inv_ℚ is_at_most_ℚ floor_ℚ floor is_at_most ◌⊕◌ ◌⊗◌ inverse /_rec₂ /_rec power ten_to scaled_square at_place
returns-clause-rounded c = record {
  digits = record { at_least_10 = omega arith; at_most_99 = omega arith; low = record { holds = refl }; high = record { not_above = refl } };
  estimate = refl;
}

estimate_at : at_place (value_of (scaled (pos 1005762) 5)) (negsuc 2) ≡ pos 10058
unfolding value_of ◌+ℚ◌ ◌*ℚ◌ inv_ℚ floor_ℚ floor ◌⊕◌ ◌⊗◌ inverse /_rec₂ /_rec power ten_to at_place
estimate_at = refl

pub returns-clause-other_estimate : goal.returns-clause-other_estimate
returns-clause-other_estimate c = λ h.
    let same : pos 10058 ≡ pos 10057 = sym estimate_at ∙ h.estimate in
    omega (arith, ints)

pub returns-clause-other_digits : goal.returns-clause-other_digits
unfolding value_of ◌*ℚ◌ inv_ℚ is_at_most_ℚ is_at_most ◌⊗◌ inverse /_rec₂ /_rec power ten_to scaled_square
returns-clause-other_digits c = λ h. below_not _ _ (record { not_above = refl }) h.digits.low

pub returns-clause-exact : goal.returns-clause-exact
returns-clause-exact c = record { variance = refl; estimate = refl }

pub returns-clause-other_exact : goal.returns-clause-other_exact
unfolding value_of is_at_most_ℚ is_at_most /_rec₂ /_rec
returns-clause-other_exact c = λ h.
    below_not (value_of (scaled (pos 1005762) 5)) (value_of (scaled (pos 1005763) 5)) (record { not_above = refl }) (≤ℚ_same _ _ (sym h.estimate))

pub returns-clause-uncertain : goal.returns-clause-uncertain
unfolding value_of is_at_most_ℚ is_at_most /_rec₂ /_rec
returns-clause-uncertain c = λ h.
    below_not (of_ℤ (pos 0)) (value_of (scaled (pos 729) 6)) (record { not_above = refl }) (≤ℚ_same _ _ h.variance)

pub returns-clause-too_small : goal.returns-clause-too_small
returns-clause-too_small c = λ h. let low = h.0 in omega (arith, ints)

pub returns-clause-too_great : goal.returns-clause-too_great
returns-clause-too_great c = λ h. let high = h.1 in omega (arith, ints)

pub returns-clause-least : goal.returns-clause-least
returns-clause-least c = (omega (arith, ints), omega (arith, ints))

pub returns-clause-greatest : goal.returns-clause-greatest
returns-clause-greatest c = (omega (arith, ints), omega (arith, ints))
