-- Coverage factors of Table G.2 (JCGM 100:2008) as decimal numbers, over what is known of the degrees of freedom.
-- The table itself is that of the exact law.
use Rattle.std.specs.Prelude.{List, ◌∷◌, Option, None, Some, pos}
use Rattle.decimal18.specs.Bound.{Bound, canonical, value_of}
use Rattle.fixed_interval.specs.Interval.{Interval, point_span}
use Rattle.exact_law.specs.Degrees.{Level as Percent, Percent95, Percent9545, Percent99, Degrees, NoDegrees, InfiniteDegrees, FiniteDegrees, Factors, first_row, later_rows, thousandths, row_of}
use Rattle.table_g2.specs.declared.known.Level.{Level}
use Rattle.table_g2.specs.declared.known.Level.TheVariants.{L95, L9545, L99}
use Rattle.table_g2.specs.declared.known.Nu.{Nu}
use Rattle.table_g2.specs.declared.known.Nu.TheVariants.{None as NoNu, Infinite, Range}
use Rattle.table_g2.specs.declared.table.Factors.{Factors as HeldFactors}

-- the column of the table
abbrev pub column : Level → Percent
column L95 = Percent95
column L9545 = Percent9545
column L99 = Percent99

-- the rows of finite ν
abbrev pub finite_rows : List Factors
finite_rows = first_row ∷ later_rows

-- the factors of a row as the code holds them
abbrev pub held : Factors → HeldFactors
held f = record { percent95 = f.percent95; percent9545 = f.percent9545; percent99 = f.percent99 }

-- the factor for exact degrees
abbrev pub factor_bound : Level → Degrees → Bound
factor_bound level degrees = canonical (pos (thousandths (column level) (row_of degrees))) 3

-- the least factor that there may be: that at the upper end of the degrees, if they have one
abbrev pub least_factor : Level → Option Bound → Bound
least_factor level None = factor_bound level InfiniteDegrees
least_factor level (Some hi) = factor_bound level (FiniteDegrees (value_of hi))

-- the span of the factor, which falls as the degrees grow
abbrev pub factor_span : Nu → Level → Interval
factor_span NoNu level = point_span (factor_bound level NoDegrees)
factor_span Infinite level = point_span (factor_bound level InfiniteDegrees)
factor_span (Range lo hi) level = record { lo = least_factor level hi; hi = factor_bound level (FiniteDegrees (value_of lo)) }
