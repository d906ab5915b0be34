-- Effective degrees of freedom by the Welch-Satterthwaite formula (JCGM 100:2008, G.4.1), and the
-- coverage factor of Table G.2 for them.
use Rattle.std.specs.Prelude.{ℕ, ◌-◌, Bool, false, cond, not, ◌&&◌, ◌||◌, List, [], ◌∷◌, pos}
use Rattle.exact_fraction.specs.Number.{ℚ, of_ℤ, ◌*ℚ◌, ◌/ℚ◌, inv_ℚ, is_zero_ℚ, is_at_most_ℚ}
use Rattle.exact_fraction.specs.Sums.{total}
use Rattle.exact_law.specs.Model.{Row}
use Rattle.exact_law.specs.Law.{Group, Own, Pair, Joint, law, part_of}

-- 1/ν of a group, and 0 where its degrees are infinite. The mean of n readings has ν = n - 1 (JCGM
-- 100:2008, G.3.3); that a table of several columns has the same is a choice of ours
unfoldable pub inverse_degrees : {K : Type 0} → Group K → ℚ
inverse_degrees (Own k c d) = d
inverse_degrees (Pair k m v w c d) = d
inverse_degrees (Joint n columns) = inv_ℚ (of_ℤ (pos (n - 1)))

-- what a group brings to a variance: its part, and its 1/ν
pub record Share : Type 0 where
  pub part : ℚ
  pub inverse_degrees : ℚ

-- whether the share is not 0 and its degrees are finite
unfoldable pub counts : Share → Bool
counts s = not (is_zero_ℚ s.part) && not (is_zero_ℚ s.inverse_degrees)

unfoldable pub any_counts : List Share → Bool
any_counts [] = false
any_counts (s ∷ ss) = counts s || any_counts ss

-- the share's part squared, divided by its ν
unfoldable pub weight : Share → ℚ
weight s = s.part *ℚ s.part *ℚ s.inverse_degrees

pub data Degrees : Type 0 where
  NoDegrees : Degrees
  InfiniteDegrees : Degrees
  FiniteDegrees : ℚ → Degrees

-- the effective degrees of a variance with these shares: none for the variance 0, infinite where no
-- share counts, and else the variance squared divided by the sum of the weights
unfoldable pub effective : ℚ → List Share → Degrees
effective variance shares =
    cond (is_zero_ℚ variance) NoDegrees
    (cond (any_counts shares) (FiniteDegrees (variance *ℚ variance /ℚ total weight shares)) InfiniteDegrees)

-- what the group brings to the variance of y
unfoldable pub share_of : {K : Type 0} → (K → K → Bool) → List (Row K) → K → Group K → Share
share_of same model y g = record { part = part_of same model g y; inverse_degrees = inverse_degrees g }

unfoldable pub shares_of : {K : Type 0} → (K → K → Bool) → List (Row K) → K → List (Group K) → List Share
shares_of same model y [] = []
shares_of same model y (g ∷ gs) = share_of same model y g ∷ shares_of same model y gs

-- the effective degrees of freedom of y
unfoldable pub degrees_of : {K : Type 0} → (K → K → Bool) → List (Row K) → List (Group K) → K → Degrees
degrees_of same model groups y = effective (law same model groups y y) (shares_of same model y groups)

-- ---- Table G.2 of JCGM 100:2008
-- the fraction of the distribution in percent
pub data Level : Type 0 where
  Percent95 : Level
  Percent9545 : Level
  Percent99 : Level

-- a row of the table: its ν, and the three factors in thousandths
pub record Factors : Type 0 where
  pub degrees : ℕ
  pub percent95 : ℕ
  pub percent9545 : ℕ
  pub percent99 : ℕ

unfoldable pub row : ℕ → ℕ → ℕ → ℕ → Factors
row n a b c = record { degrees = n; percent95 = a; percent9545 = b; percent99 = c }

unfoldable pub first_row : Factors
first_row = row 1 12710 13970 63660

unfoldable pub later_rows : List Factors
later_rows =
    row 2 4300 4530 9920
    ∷ row 3 3180 3310 5840
    ∷ row 4 2780 2870 4600
    ∷ row 5 2570 2650 4030
    ∷ row 6 2450 2520 3710
    ∷ row 7 2360 2430 3500
    ∷ row 8 2310 2370 3360
    ∷ row 9 2260 2320 3250
    ∷ row 10 2230 2280 3170
    ∷ row 11 2200 2250 3110
    ∷ row 12 2180 2230 3050
    ∷ row 13 2160 2210 3010
    ∷ row 14 2140 2200 2980
    ∷ row 15 2130 2180 2950
    ∷ row 16 2120 2170 2920
    ∷ row 17 2110 2160 2900
    ∷ row 18 2100 2150 2880
    ∷ row 19 2090 2140 2860
    ∷ row 20 2090 2130 2850
    ∷ row 25 2060 2110 2790
    ∷ row 30 2040 2090 2750
    ∷ row 35 2030 2070 2720
    ∷ row 40 2020 2060 2700
    ∷ row 45 2010 2060 2690
    ∷ row 50 2010 2050 2680
    ∷ row 100 1984 2025 2626
    ∷ []

-- the row of infinite ν
unfoldable pub infinite_row : Factors
infinite_row = row 0 1960 2000 2576

unfoldable pub thousandths : Level → Factors → ℕ
thousandths Percent95 f = f.percent95
thousandths Percent9545 f = f.percent9545
thousandths Percent99 f = f.percent99

unfoldable pub factor_in : Level → Factors → ℚ
factor_in level f = of_ℤ (pos (thousandths level f)) /ℚ of_ℤ (pos 1000)

-- the last row whose ν is not above x, where the rows have rising ν; f is the row before them
unfoldable pub row_at : ℚ → Factors → List Factors → Factors
row_at x f [] = f
row_at x f (g ∷ gs) = cond (is_at_most_ℚ (of_ℤ (pos g.degrees)) x) (row_at x g gs) f

-- the row for the degrees. JCGM 100:2008, G.4.1 has a ν that is no whole number interpolated or cut off to
-- the next lower one; that one which is no row's takes the next lower row, and one below 1 the first, is
-- ours
unfoldable pub row_of : Degrees → Factors
row_of NoDegrees = infinite_row
row_of InfiniteDegrees = infinite_row
row_of (FiniteDegrees x) = row_at x first_row later_rows

-- the coverage factor k for the degrees
unfoldable pub factor : Level → Degrees → ℚ
factor level degrees = factor_in level (row_of degrees)
