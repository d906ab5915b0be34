use Rattle.std.specs.Prelude.{refl}
use std.Quotient.{/_rec, /_rec₂}
use Rattle.exact_fraction.specs.Fraction.{◌⊕◌, ◌⊗◌, negated, inverse}
use Rattle.exact_fraction.specs.Number.{◌+ℚ◌, ◌*ℚ◌, neg_ℚ, inv_ℚ, is_zero_ℚ}
use Rattle.exact_fraction.proofs.Ring.{same_by_test}
use Rattle.decimal18.specs.Bound.{value_of}
use Rattle.type_b.proofs.laws.worked_variances.Goals as goal

pub returns : goal.returns
unfolding ◌+ℚ◌ ◌*ℚ◌ neg_ℚ inv_ℚ is_zero_ℚ ◌⊕◌ ◌⊗◌ negated inverse value_of /_rec₂ /_rec
returns c = record {
  exact = refl;
  standard = same_by_test _ _ refl;
  expanded = same_by_test _ _ refl;
  normal_at_90 = same_by_test _ _ refl;
  normal_at_95 = same_by_test _ _ refl;
  normal_at_99 = same_by_test _ _ refl;
  rectangular = same_by_test _ _ refl;
  triangular = same_by_test _ _ refl;
  without_top = same_by_test _ _ refl;
  half_as_wide = same_by_test _ _ refl;
  as_wide = same_by_test _ _ refl;
  arcsine = same_by_test _ _ refl;
}
