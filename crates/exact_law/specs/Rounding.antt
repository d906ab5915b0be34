-- Rounded numbers: the whole part, an estimate at a decimal place, the two significant digits of the
-- square root of a variance, and the hundredths of a correlation coefficient. JCGM 100:2008, 7.2.6 has at
-- most two digits suffice for an uncertainty. That there are two, that a coefficient has hundredths, that
-- ties go upward, and the exact conditions on squares below, are ours.
use Rattle.std.specs.Prelude.{◌≡◌, ℕ, suc, ◌+◌, ◌-◌, ◌*◌, ◌≤◌, ◌==◌, cond, ℤ, pos, negsuc, ◌<ℤ◌, unsigned_abs}
use Rattle.exact_fraction.specs.Number.{ℚ, of_ℤ, ◌+ℚ◌, ◌*ℚ◌, ◌/ℚ◌, inv_ℚ, ◌≤ℚ◌, floor_ℚ, ◌<ℚ◌}
use Rattle.exact_fraction.specs.Powers.{power}

-- 10 to the power e
unfoldable pub ten_to : ℤ → ℚ
ten_to (pos n) = power (of_ℤ (pos 10)) n
ten_to (negsuc n) = power (inv_ℚ (of_ℤ (pos 10))) (suc n)

-- q in units of 10^e: the greatest whole number not above q / 10^e + 1/2
unfoldable pub at_place : ℚ → ℤ → ℤ
at_place q e = floor_ℚ (q /ℚ ten_to e +ℚ of_ℤ (pos 1) /ℚ of_ℤ (pos 2))

-- the least root that is rounded to m, in twentieths: m - 1/2, but 9.95 for m = 10, below which a
-- unit of the last digit is a tenth
abbrev pub least_root : ℕ → ℕ
least_root m = cond (m == 10) 199 (20 * m - 10)

-- (r 10^e)²
unfoldable pub scaled_square : ℕ → ℤ → ℚ
scaled_square r e = of_ℤ (pos (r * r)) *ℚ (ten_to e *ℚ ten_to e)

-- the root of v is rounded to the two digits m at place e
pub record IsTwoDigits (v : ℚ) (m : ℕ) (e : ℤ) : Type 0 where
  pub at_least_10 : 10 ≤ m
  pub at_most_99 : m ≤ 99
  pub low : scaled_square (least_root m) e ≤ℚ of_ℤ (pos 400) *ℚ v
  pub high : of_ℤ (pos 400) *ℚ v <ℚ scaled_square (20 * m + 10) e

-- the two digits with their place, or none for a variance that is 0
pub data Digits : Type 0 where
  Zero : Digits
  Two : ℕ → ℤ → Digits

-- the digits are those of the root of v
unfoldable pub AreDigitsOf : ℚ → Digits → Type 0
AreDigitsOf v Zero = v ≡ of_ℤ (pos 0)
AreDigitsOf v (Two m e) = IsTwoDigits v m e

-- the same in two steps: the place where the root has two digits, and there the nearest whole number,
-- which may be 100, that is 10 at the next place
pub record IsNearest (v : ℚ) (m : ℕ) (e : ℤ) : Type 0 where
  pub at_least_10 : scaled_square 10 e ≤ℚ v
  pub below_100 : v <ℚ scaled_square 100 e
  pub low : scaled_square (2 * m - 1) e ≤ℚ of_ℤ (pos 4) *ℚ v
  pub high : of_ℤ (pos 4) *ℚ v <ℚ scaled_square (2 * m + 1) e

-- the root of f, from 0 to 1, is rounded to m hundredths
pub record IsHundredths (f : ℚ) (m : ℕ) : Type 0 where
  pub low : of_ℤ (pos ((2 * m - 1) * (2 * m - 1))) ≤ℚ of_ℤ (pos 40000) *ℚ f
  pub high : of_ℤ (pos 40000) *ℚ f <ℚ of_ℤ (pos ((2 * m + 1) * (2 * m + 1)))

-- the correlation coefficient (JCGM 100:2008, 5.2.2) of two quantities with the covariance c and the
-- variances v and w, both of them above 0, is rounded to d hundredths
pub record IsCorrelation (c v w : ℚ) (d : ℤ) : Type 0 where
  pub first : of_ℤ (pos 0) <ℚ v
  pub second : of_ℤ (pos 0) <ℚ w
  pub magnitude : IsHundredths (c *ℚ c /ℚ (v *ℚ w)) (unsigned_abs d)
  pub positive : pos 0 <ℤ d → of_ℤ (pos 0) ≤ℚ c
  pub negative : d <ℤ pos 0 → c ≤ℚ of_ℤ (pos 0)
