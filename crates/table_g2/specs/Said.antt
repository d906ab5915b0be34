-- What is said of effective degrees of freedom: their whole part, where what is known settles it. JCGM 100:2008, G.4.1
-- has a ν that is no whole number cut off to the next lower one.
use Rattle.std.specs.Prelude.{◌≡◌, ◌≢◌, if◌then◌else◌, None, Some, ℤ, pos, unsigned_abs}
use Rattle.std.specs.Ordering.{int_eq}
use Rattle.std.specs.declared.cmp.Ordering.{Ordering}
use Rattle.std.specs.declared.cmp.Ordering.TheVariants.{Less, Equal, Greater}
use Rattle.exact_fraction.specs.Number.{ℚ, of_ℤ, ◌≤ℚ◌, floor_ℚ}
use Rattle.decimal18.specs.Bound.{value_of}
use Rattle.decimal18.specs.Order.{compare_ℚ}
use Rattle.exact_law.specs.Degrees.{Degrees, NoDegrees, FiniteDegrees}
use Rattle.table_g2.specs.Known.{told_apart}
use Rattle.table_g2.specs.declared.known.Nu.{Nu}
use Rattle.table_g2.specs.declared.known.Nu.TheVariants.{None as NoNu, Infinite, Range}
use Rattle.table_g2.specs.declared.settled.DofSaid.{DofSaid}
use Rattle.table_g2.specs.declared.settled.DofSaid.TheVariants.{None as SaidNone, Infinite as SaidInfinite, Big, Whole, Unsettled}

-- what is said of a range, by how its lower end compares with the degrees that are not told apart, and by the whole
-- parts of its ends
abbrev pub said_of_range : Ordering → ℤ → ℤ → DofSaid
said_of_range Less least most = if int_eq least most then Whole (unsigned_abs least) else Unsettled
said_of_range Equal least most = Big
said_of_range Greater least most = Unsettled

-- what is said
abbrev pub said : Nu → DofSaid
said NoNu = SaidNone
said Infinite = SaidInfinite
said (Range lo None) = Unsettled
said (Range lo (Some hi)) = said_of_range (compare_ℚ (value_of lo) (of_ℤ (pos told_apart))) (floor_ℚ (value_of lo)) (floor_ℚ (value_of hi))

-- what that means of the exact degrees
abbrev pub IsSaid : DofSaid → Degrees → Type 0
IsSaid SaidNone exact = exact ≡ NoDegrees
IsSaid SaidInfinite exact = (x : ℚ) → exact ≢ FiniteDegrees x
IsSaid Big exact = (x : ℚ) × ((exact ≡ FiniteDegrees x) × (of_ℤ (pos told_apart) ≤ℚ x))
IsSaid (Whole w) exact = (x : ℚ) × ((exact ≡ FiniteDegrees x) × (floor_ℚ x ≡ pos w))
IsSaid Unsettled exact = Unit {0}
