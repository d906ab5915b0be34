-- What the crate's struct `Ratio` stands for, and how two numbers compare.
use Rattle.std.specs.Prelude.{◌≡◌}
use Rattle.std.specs.declared.cmp.Ordering.{Ordering}
use Rattle.std.specs.declared.cmp.Ordering.TheVariants.{Less, Equal, Greater}
use Rattle.exact_fraction.specs.declared.ratio.Ratio.{Ratio}
use Rattle.exact_fraction.specs.Fraction.{Fraction}
use Rattle.exact_fraction.specs.Number.{ℚ, number_of, ◌≤ℚ◌}

-- the fraction of the two numbers, which is not reduced
abbrev pub fraction_of_ratio : Ratio → Fraction
fraction_of_ratio q = record { num = q.num; den = q.den; positive = q.positive }

-- the exact value num / den
abbrev pub value_of_ratio : Ratio → ℚ
value_of_ratio q = number_of (fraction_of_ratio q)

-- the answer of a comparison of x with y: `Less` says that x is below y, and `Greater` that it is above
abbrev pub IsOrderOf : Ordering → ℚ → ℚ → Type 0
IsOrderOf Less x y = ¬ (y ≤ℚ x)
IsOrderOf Equal x y = x ≡ y
IsOrderOf Greater x y = ¬ (x ≤ℚ y)
