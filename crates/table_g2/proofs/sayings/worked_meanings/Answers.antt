use Rattle.std.specs.Prelude.{◌≡◌, pos, refl}
use Rattle.std.proofs.Common.{sym, ◌∙◌}
use std.Quotient.{/_rec, /_rec₂}
use Rattle.exact_fraction.specs.Fraction.{is_at_most, floor}
use Rattle.exact_fraction.specs.Number.{of_ℤ, is_at_most_ℚ, floor_ℚ}
use Rattle.exact_fraction.proofs.OrderLaws.{floor_ℚ-of_ℤ}
use Rattle.decimal18.specs.Bound.{value_of}
use Rattle.decimal18.specs.OrderLaws.{not_at_most}
use Rattle.table_g2.proofs.Worked.{none_not_finite, infinite_not_finite, infinite_not_none, big_number, whole_number}
use Rattle.table_g2.proofs.sayings.worked_meanings.Goals as goal

other_whole : pos 14 ≡ pos 13 → ⊥
other_whole e = absurd (cc)

pub returns : goal.returns
unfolding is_at_most_ℚ is_at_most floor_ℚ floor value_of /_rec₂ /_rec
returns c = record {
  none = refl;
  none_but_infinite = infinite_not_none;
  infinite = infinite_not_finite;
  infinite_but_none = none_not_finite;
  infinite_but_finite = λ x h. h x refl;
  big = (_, (refl, record { holds = refl }));
  not_big = λ h. not_at_most _ _ refl (big_number (of_ℤ (pos 999999999)) h);
  whole = (_, (refl, refl));
  next_whole = λ h. other_whole (sym (floor_ℚ-of_ℤ (pos 14)) ∙ whole_number 13 (of_ℤ (pos 14)) h);
  not_finite = λ h. infinite_not_finite h.0 h.1.0;
  unsettled = tt;
}
