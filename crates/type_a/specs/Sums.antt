-- The sums by which means and covariances are found, over whole numbers.
use Rattle.std.specs.Prelude.{ℕ, ℤ}
use Rattle.exact_fraction.specs.Number.{ℚ, of_ℤ, ◌*ℚ◌}
use Rattle.exact_fraction.specs.Sums.{total, below}
use Rattle.type_a.specs.Tables.{Table, finest, reading_at, coefficient_at}

-- what the column reads in a record, in units of the finest place of the table
abbrev pub coefficient_in : Table → ℕ → ℕ → ℤ
coefficient_in t column row = coefficient_at (finest t) (reading_at t row column)

-- the sum of the column over the first n records
abbrev pub sum_of : Table → ℕ → ℕ → ℚ
sum_of t column n = total (λ row. of_ℤ (coefficient_in t column row)) (below n)

-- the sum of the products of two columns over the first n records
abbrev pub sum_of_products : Table → ℕ → ℕ → ℕ → ℚ
sum_of_products t a b n = total (λ row. of_ℤ (coefficient_in t a row) *ℚ of_ℤ (coefficient_in t b row)) (below n)
