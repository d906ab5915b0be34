use Rattle.std.specs.Prelude.{refl, pos}
use Rattle.std.proofs.Common.{arith, inr}
use Rattle.std.proofs.lemmas.Int.{ints}
use std.Quotient.{/_rec, /_rec₂}
use Rattle.exact_fraction.specs.Fraction as fraction
use Rattle.exact_fraction.specs.Fraction.{◌⊗◌, inverse, is_at_most, floor}
use Rattle.exact_fraction.specs.Number.{of_ℤ, ◌*ℚ◌, inv_ℚ, neg_ℚ, is_at_most_ℚ, floor_ℚ, min_ℚ, max_ℚ}
use Rattle.exact_fraction.proofs.Strict.{below_not}
use Rattle.exact_fraction.specs.NumberLaws.{≤ℚ_same}
use Rattle.decimal18.specs.Bound.{scaled, value_of}
use Rattle.decimal18.specs.Down.{is_in_range, cut_off, down, up}
use Rattle.decimal18.proofs.Values.{value-whole}
use Rattle.fixed_interval.specs.Interval.{outward, point_span}
use Rattle.fixed_interval.specs.Extremes.{lesser, greater}
use Rattle.round_out.proofs.Said.{ends_differ}
use Rattle.round_out.proofs.laws.worked_correlations.Goals as goal

pub returns-clause-negative : goal.returns-clause-negative
unfolding outward min_ℚ max_ℚ value_of up down cut_off is_in_range ◌*ℚ◌ inv_ℚ neg_ℚ is_at_most_ℚ floor_ℚ floor is_at_most ◌⊗◌ inverse fraction.negated lesser greater /_rec₂ /_rec
returns-clause-negative c = (
  record { first = record { not_above = refl }; second = record { not_above = refl } },
  (point_span (scaled (pos 25) 2), (refl, record { low = record { low = record { holds = refl }; high = record { not_above = refl } }; high = record { low = record { holds = refl }; high = record { not_above = refl } }; positive = λ h. absurd (omega (arith, ints)); negative = λ h. record { holds = refl }; below = λ h. record { not_above = refl } })),
)

pub returns-clause-one : goal.returns-clause-one
unfolding outward min_ℚ max_ℚ value_of up down cut_off is_in_range ◌*ℚ◌ inv_ℚ neg_ℚ is_at_most_ℚ floor_ℚ floor is_at_most ◌⊗◌ inverse fraction.negated lesser greater /_rec₂ /_rec
returns-clause-one c = (
  record { first = record { not_above = refl }; second = record { not_above = refl } },
  (point_span (scaled (pos 1) 0), (refl, record { low = record { low = record { holds = refl }; high = record { not_above = refl } }; high = record { low = record { holds = refl }; high = record { not_above = refl } }; positive = λ h. record { holds = refl }; negative = λ h. absurd (omega (arith, ints)); below = λ h. absurd (omega (arith, ints)) })),
)

pub returns-clause-none_apart : goal.returns-clause-none_apart
unfolding outward min_ℚ max_ℚ value_of up down cut_off is_in_range ◌*ℚ◌ inv_ℚ neg_ℚ is_at_most_ℚ floor_ℚ floor is_at_most ◌⊗◌ inverse fraction.negated lesser greater /_rec₂ /_rec
returns-clause-none_apart c = (
  record { first = record { not_above = refl }; second = record { not_above = refl } },
  (record { lo = scaled (pos 0) 0; hi = scaled (pos 1) 6 }, (refl, record { low = record { low = record { holds = refl }; high = record { not_above = refl } }; high = record { low = record { holds = refl }; high = record { not_above = refl } }; positive = λ h. absurd (omega (arith, ints)); negative = λ h. absurd (omega (arith, ints)); below = λ h. absurd (omega (arith, ints)) })),
)

pub returns-clause-apart : goal.returns-clause-apart
unfolding outward min_ℚ max_ℚ value_of up down cut_off is_in_range ◌*ℚ◌ inv_ℚ neg_ℚ is_at_most_ℚ floor_ℚ floor is_at_most ◌⊗◌ inverse fraction.negated lesser greater /_rec₂ /_rec
returns-clause-apart c =
    record {
      first = λ h. below_not (of_ℤ (pos 0)) _ (record { not_above = refl }) (≤ℚ_same _ _ h.low);
      second = λ h. below_not (of_ℤ (pos 0)) _ (record { not_above = refl }) (≤ℚ_same _ _ h.low);
      nothing = λ p. (record { lo = scaled (pos 25) 2; hi = scaled (pos 1) 0 }, (refl, ends_differ _ (record { lo = scaled (pos 25) 2; hi = scaled (pos 1) 0 }) 50 100 (record { low = record { holds = refl }; high = record { not_above = refl } }) (record { low = record { holds = refl }; high = record { not_above = refl } }) (λ h. absurd (omega arith))));
    }

pub returns-clause-from_zero : goal.returns-clause-from_zero
unfolding outward min_ℚ max_ℚ value_of up down cut_off is_in_range ◌*ℚ◌ inv_ℚ neg_ℚ is_at_most_ℚ floor_ℚ floor is_at_most ◌⊗◌ inverse fraction.negated lesser greater /_rec₂ /_rec
returns-clause-from_zero c =
    record {
      first = λ h. below_not (of_ℤ (pos 0)) _ (record { not_above = refl }) (≤ℚ_same _ _ h.high);
      second = λ h. below_not (of_ℤ (pos 0)) _ (record { not_above = refl }) (≤ℚ_same _ _ h.low);
      nothing = λ p. absurd (below_not _ _ p.first (record { holds = refl }));
    }

pub returns-clause-no_variance : goal.returns-clause-no_variance
unfolding outward min_ℚ max_ℚ value_of up down cut_off is_in_range ◌*ℚ◌ inv_ℚ neg_ℚ is_at_most_ℚ floor_ℚ floor is_at_most ◌⊗◌ inverse fraction.negated lesser greater /_rec₂ /_rec
returns-clause-no_variance c =
    inr (record { low = value-whole (pos 0); high = value-whole (pos 0) })

pub returns-clause-overflow : goal.returns-clause-overflow
unfolding outward min_ℚ max_ℚ value_of up down cut_off is_in_range ◌*ℚ◌ inv_ℚ neg_ℚ is_at_most_ℚ floor_ℚ floor is_at_most ◌⊗◌ inverse fraction.negated lesser greater /_rec₂ /_rec
returns-clause-overflow c =
    (record { first = record { not_above = refl }; second = record { not_above = refl } }, refl)
