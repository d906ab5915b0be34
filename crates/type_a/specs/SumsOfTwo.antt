-- The sums over two columns that the crate's struct `Sums` holds.
use Rattle.std.specs.Prelude.{◌≡◌, ℕ, ◌*◌, ◌^◌, ◌≤◌, unsigned_abs}
use Rattle.exact_fraction.specs.Number.{of_ℤ}
use Rattle.type_a.specs.declared.sums.Sums.{Sums}
use Rattle.type_a.specs.Tables.{Table}
use Rattle.type_a.specs.Sums.{sum_of, sum_of_products}

-- they are those of the columns a and b over the first n records
pub record AreSums (t : Table) (a b n : ℕ) (s : Sums) : Type 0 where
  pub products : of_ℤ s.products ≡ sum_of_products t a b n
  pub first : of_ℤ s.first ≡ sum_of t a n
  pub second : of_ℤ s.second ≡ sum_of t b n

-- they have the magnitude that n records can give them, where each reading is at most 10^15
pub record AreSmall (n : ℕ) (s : Sums) : Type 0 where
  pub products : unsigned_abs s.products ≤ n * 10 ^ 30
  pub first : unsigned_abs s.first ≤ n * 10 ^ 15
  pub second : unsigned_abs s.second ≤ n * 10 ^ 15
