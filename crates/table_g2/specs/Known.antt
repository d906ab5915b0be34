-- Effective degrees of freedom as far as they are known (JCGM 100:2008, G.4.1). That they are known by an upper
-- and a lower end, and are not told apart from 10^9 on, is this project's own.
use Rattle.std.specs.Prelude.{◌≡◌, ◌≢◌, ℕ, ◌⊎◌, Option, None, Some, IfSome, pos}
use Rattle.exact_fraction.specs.Number.{ℚ, of_ℤ, ◌≤ℚ◌}
use Rattle.decimal18.specs.Bound.{Bound, value_of}
use Rattle.exact_law.specs.Degrees.{Degrees, NoDegrees, FiniteDegrees}
use Rattle.table_g2.specs.declared.known.Nu.{Nu}
use Rattle.table_g2.specs.declared.known.Nu.TheVariants.{None as NoNu, Infinite, Range}

-- at least one degree, and an upper end, where it is there, that is not below the lower one
pub record IsRange (lo : Bound) (hi : Option Bound) : Type 0 where
  pub at_least_one : of_ℤ (pos 1) ≤ℚ value_of lo
  pub ordered : IfSome hi (λ b. value_of lo ≤ℚ value_of b)

abbrev pub AreDegrees : Nu → Type 0
AreDegrees NoNu = Unit {0}
AreDegrees Infinite = Unit {0}
AreDegrees (Range lo hi) = IsRange lo hi

-- from here on degrees are not told apart
abbrev pub told_apart : ℕ
told_apart = 1000000000

-- x is at most the upper end, or that is so great that it says nothing
abbrev pub IsBelow : ℚ → Bound → Type 0
IsBelow x hi = (x ≤ℚ value_of hi) ⊎ (of_ℤ (pos told_apart) ≤ℚ value_of hi)

-- The exact degrees that what is known allows. Infinite ones may be those of a variance that is 0, which has none,
-- and without an upper end they may be infinite, or none
abbrev pub Allows : Nu → Degrees → Type 0
Allows NoNu exact = exact ≡ NoDegrees
Allows Infinite exact = (x : ℚ) → exact ≢ FiniteDegrees x
Allows (Range lo None) exact = (x : ℚ) → exact ≡ FiniteDegrees x → value_of lo ≤ℚ x
Allows (Range lo (Some hi)) exact = (x : ℚ) × ((exact ≡ FiniteDegrees x) × (value_of lo ≤ℚ x) × IsBelow x hi)
