use Rattle.std.specs.Prelude.{ℕ, ◌≡◌, pos, refl, ◌∷◌, []}
use Rattle.std.proofs.Common.{ap, ◌∙◌}
use std.Quotient.{/_rec, /_rec₂}
use Rattle.exact_fraction.specs.Fraction.{◌⊕◌, ◌⊗◌, negated, inverse}
use Rattle.exact_fraction.specs.Number.{of_ℤ, ◌+ℚ◌, ◌*ℚ◌, ◌/ℚ◌, neg_ℚ, inv_ℚ, is_zero_ℚ}
use Rattle.exact_fraction.specs.NumberLaws.{of_ℤ-*}
use Rattle.exact_fraction.proofs.Ring.{ring, same_by_test, Whole, ◌:*◌, x0, x1}
use Rattle.decimal18.specs.Bound.{value_of}
use Rattle.type_b.specs.Shapes.{inverse_degrees}
use Rattle.type_b.specs.declared.shape.Dof.TheVariants.{Rel}
use Rattle.type_b.proofs.laws.worked_degrees.Goals as goal

-- 1/5000 = 2 / 100²
inverse_of_5000 : inv_ℚ (of_ℤ (pos 5000)) ≡ of_ℤ (pos 2) *ℚ (inv_ℚ (of_ℤ (pos 100)) *ℚ inv_ℚ (of_ℤ (pos 100)))
unfolding ◌+ℚ◌ ◌*ℚ◌ neg_ℚ inv_ℚ is_zero_ℚ ◌⊕◌ ◌⊗◌ negated inverse /_rec₂ /_rec
inverse_of_5000 = same_by_test _ _ refl

by_percent : (p : ℕ) → inverse_degrees (Rel p) ≡ of_ℤ (pos 2) *ℚ ((of_ℤ (pos p) /ℚ of_ℤ (pos 100)) *ℚ (of_ℤ (pos p) /ℚ of_ℤ (pos 100)))
by_percent p =
    ap (λ t. t *ℚ inv_ℚ (of_ℤ (pos 5000))) (of_ℤ-* (pos p) (pos p))
    ∙ ap (λ t. (of_ℤ (pos p) *ℚ of_ℤ (pos p)) *ℚ t) inverse_of_5000
    ∙ ring (of_ℤ (pos p) ∷ inv_ℚ (of_ℤ (pos 100)) ∷ []) ((x0 :* x0) :* (Whole (pos 2) :* (x1 :* x1))) (Whole (pos 2) :* ((x0 :* x1) :* (x0 :* x1))) refl

pub returns : goal.returns
unfolding ◌+ℚ◌ ◌*ℚ◌ neg_ℚ inv_ℚ is_zero_ℚ ◌⊕◌ ◌⊗◌ negated inverse value_of /_rec₂ /_rec
returns c = record {
  infinite = refl;
  whole = same_by_test _ _ refl;
  quarter = same_by_test _ _ refl;
  most = same_by_test _ _ refl;
  relative = by_percent;
}
