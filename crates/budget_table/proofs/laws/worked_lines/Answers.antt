use Rattle.std.specs.Prelude.{◌≡◌, [], Some, pos, negsuc, refl}
use std.Quotient.{/_rec, /_rec₂}
use Rattle.std.proofs.Common.{subst}
use Rattle.exact_fraction.specs.Fraction as fraction
use Rattle.exact_fraction.specs.Fraction.{◌⊕◌, ◌⊗◌, inverse, is_at_most, floor}
use Rattle.exact_fraction.specs.Number.{◌+ℚ◌, ◌*ℚ◌, inv_ℚ, neg_ℚ, is_at_most_ℚ, floor_ℚ, min_ℚ, max_ℚ}
use Rattle.exact_fraction.proofs.Ring.{ring, Whole, ◌:*◌}
use Rattle.decimal18.specs.Bound.{value_of}
use Rattle.decimal18.specs.Down.{is_in_range, cut_off, down, up}
use Rattle.decimal18.specs.OrderLaws.{not_at_most}
use Rattle.fixed_interval.specs.Interval.{outward}
use Rattle.fixed_interval.specs.Rules.{holds_zero}
use Rattle.fixed_interval.specs.Sums.{Holds}
use Rattle.fixed_interval.proofs.Enclosures.{point_encloses}
use Rattle.budget_table.specs.Budgets.{contribution, own_span}
use Rattle.budget_table.specs.WorkedBudgets.{known, whole}
use Rattle.budget_table.proofs.Lines.{own_holds}
use Rattle.budget_table.proofs.laws.worked_lines.Goals as goal

own_of_known : own_span known ≡ Some (whole (pos 36))
unfolding holds_zero outward min_ℚ max_ℚ value_of up down cut_off is_in_range ◌+ℚ◌ ◌*ℚ◌ inv_ℚ neg_ℚ is_at_most_ℚ floor_ℚ floor is_at_most ◌⊕◌ ◌⊗◌ inverse fraction.negated /_rec₂ /_rec
own_of_known = refl

pub returns-clause-exact : goal.returns-clause-exact
returns-clause-exact c = ring [] ((Whole (negsuc 2) :* Whole (negsuc 2)) :* Whole (pos 4)) (Whole (pos 36)) refl

pub returns-clause-enclosed : goal.returns-clause-enclosed
returns-clause-enclosed c = λ s v h k. subst (λ o. Holds o (contribution s v)) own_of_known (own_holds known s v h k)

pub returns-clause-without_square : goal.returns-clause-without_square
unfolding value_of ◌*ℚ◌ is_at_most_ℚ is_at_most ◌⊗◌ /_rec₂ /_rec
returns-clause-without_square c = λ h. not_at_most _ _ refl (h _ _ (point_encloses _) (point_encloses _)).high
