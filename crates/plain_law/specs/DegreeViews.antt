-- The degrees of freedom that the code holds, as those of the definitions.
use Rattle.exact_law.specs.Degrees.{Share, Degrees, NoDegrees, InfiniteDegrees, FiniteDegrees, Level, Percent95, Percent9545, Percent99, Factors}
use Rattle.plain_law.specs.Numbers.{number}
use Rattle.plain_law.specs.declared.degrees.Share.{Share as HeldShare}
use Rattle.plain_law.specs.declared.degrees.Factors.{Factors as HeldFactors}
use Rattle.plain_law.specs.declared.degrees.Degrees.{Degrees as HeldDegrees}
use Rattle.plain_law.specs.declared.degrees.Degrees.TheVariants.{None, Infinite, Finite}
use Rattle.plain_law.specs.declared.degrees.Level.{Level as HeldLevel}
use Rattle.plain_law.specs.declared.degrees.Level.TheVariants.{Percent95 as Held95, Percent9545 as Held9545, Percent99 as Held99}

abbrev pub share_of : HeldShare → Share
share_of s = record { part = number s.part; inverse_degrees = number s.inverse_degrees }

abbrev pub degrees_of : HeldDegrees → Degrees
degrees_of None = NoDegrees
degrees_of Infinite = InfiniteDegrees
degrees_of (Finite x) = FiniteDegrees (number x)

abbrev pub level_of : HeldLevel → Level
level_of Held95 = Percent95
level_of Held9545 = Percent9545
level_of Held99 = Percent99

abbrev pub factors_of : HeldFactors → Factors
factors_of f = record { degrees = f.degrees; percent95 = f.percent95; percent9545 = f.percent9545; percent99 = f.percent99 }
