-- The sums with one record more.
use Rattle.std.specs.Prelude.{◌≡◌, ℕ, ◌+◌, ℤ, ◌+ℤ◌, ◌*ℤ◌}
use Rattle.std.proofs.Common.{◌∙◌, ap, ap₂}
use Rattle.exact_fraction.specs.Number.{of_ℤ, ◌+ℚ◌, ◌*ℚ◌}
use Rattle.exact_fraction.specs.NumberLaws.{of_ℤ-+, of_ℤ-*, +ℚ_comm}
use Rattle.exact_fraction.proofs.SumLaws.{below_next}
use Rattle.type_a.specs.Tables.{Table}
use Rattle.type_a.specs.Sums.{coefficient_in, sum_of, sum_of_products}

pub next_sum : (t : Table) (column i : ℕ) (sum term more : ℤ) → more ≡ (sum +ℤ term) → term ≡ coefficient_in t column i → of_ℤ sum ≡ sum_of t column i
    → of_ℤ more ≡ sum_of t column (i + 1)
next_sum t column i sum term more e f h =
    below_next (λ row. of_ℤ (coefficient_in t column row)) i (of_ℤ sum) (of_ℤ more) h
    (ap of_ℤ e ∙ of_ℤ-+ sum term ∙ +ℚ_comm (of_ℤ sum) (of_ℤ term) ∙ ap (λ z. of_ℤ z +ℚ of_ℤ sum) f)

pub next_sum_of_products : (t : Table) (a b i : ℕ) (sum q r more : ℤ) → more ≡ (sum +ℤ (q *ℤ r)) → q ≡ coefficient_in t a i → r ≡ coefficient_in t b i
    → of_ℤ sum ≡ sum_of_products t a b i → of_ℤ more ≡ sum_of_products t a b (i + 1)
next_sum_of_products t a b i sum q r more e f g h =
    below_next (λ row. of_ℤ (coefficient_in t a row) *ℚ of_ℤ (coefficient_in t b row)) i (of_ℤ sum) (of_ℤ more) h
    (ap of_ℤ e ∙ of_ℤ-+ sum (q *ℤ r) ∙ +ℚ_comm (of_ℤ sum) (of_ℤ (q *ℤ r))
    ∙ ap (λ z. z +ℚ of_ℤ sum) (of_ℤ-* q r ∙ ap₂ (λ y z. of_ℤ y *ℚ of_ℤ z) f g))
