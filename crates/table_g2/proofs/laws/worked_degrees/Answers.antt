use Rattle.std.specs.Prelude.{pos, refl}
use Rattle.std.proofs.Common.{subst, inl, inr}
use std.Quotient.{/_rec, /_rec₂}
use Rattle.exact_fraction.specs.Fraction.{is_at_most}
use Rattle.exact_fraction.specs.Number.{of_ℤ, is_at_most_ℚ, ◌≤ℚ◌}
use Rattle.decimal18.specs.Bound.{scaled, value_of}
use Rattle.decimal18.specs.OrderLaws.{not_at_most}
use Rattle.table_g2.proofs.Worked.{same_Finite, not_below, not_above, none_not_finite, infinite_not_finite, infinite_not_none}
use Rattle.table_g2.proofs.laws.worked_degrees.Goals as goal

pub returns : goal.returns
unfolding is_at_most_ℚ is_at_most value_of /_rec₂ /_rec
returns c = record {
  none = refl;
  none_but_infinite = infinite_not_none;
  infinite = infinite_not_finite;
  infinite_but_none = none_not_finite;
  infinite_but_finite = λ x h. h x refl;
  from_4 = λ x e. subst (λ y. value_of (scaled (pos 4) 0) ≤ℚ y) (same_Finite _ x e) (record { holds = refl });
  from_4_without_end = λ x e. absurd (infinite_not_finite x e);
  from_4_but_none = λ x e. absurd (none_not_finite x e);
  below_4 = λ h. not_at_most _ _ refl (h _ refl);
  lower_end = (_, (refl, record { holds = refl }, inl (record { holds = refl })));
  upper_end = (_, (refl, record { holds = refl }, inl (record { holds = refl })));
  below = not_below (scaled (pos 4) 0) (scaled (pos 16) 0) (value_of (scaled (pos 39) 1)) refl;
  above = not_above (scaled (pos 4) 0) (scaled (pos 16) 0) (value_of (scaled (pos 161) 1)) refl refl;
  finite = λ h. infinite_not_finite h.0 h.1.0;
  not_told_apart = (_, (refl, record { holds = refl }, inr (record { holds = refl })));
  told_apart = not_above (scaled (pos 4) 0) (scaled (pos 999999999) 0) (of_ℤ (pos 1000000000)) refl refl;
}
