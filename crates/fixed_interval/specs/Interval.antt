-- Spans of exact numbers, and the rule by which each operation finds one.
use Rattle.std.specs.Prelude.{Option, None, Some}
use Rattle.exact_fraction.specs.Number.{ℚ, ◌+ℚ◌, ◌≤ℚ◌}
use Rattle.decimal18.specs.Bound.{Bound, value_of}
use Rattle.decimal18.specs.Down.{down, up}

-- the numbers from lo to hi
pub record Interval : Type 0 where
  pub lo : Bound
  pub hi : Bound

-- q lies in s
pub record Encloses (s : Interval) (q : ℚ) : Type 0 where
  pub low : value_of s.lo ≤ℚ q
  pub high : q ≤ℚ value_of s.hi

-- the lower end is not above the upper one
pub record IsOrdered (s : Interval) : Type 0 where
  pub ordered : value_of s.lo ≤ℚ value_of s.hi

-- the ends, where both are there
abbrev pub from_ends : Option Bound → Option Bound → Option Interval
from_ends None hi = None
from_ends (Some lo) None = None
from_ends (Some lo) (Some hi) = Some (record { lo = lo; hi = hi })

-- the span of exact results from `least` to `greatest`, rounded outwards
unfoldable pub outward : ℚ → ℚ → Option Interval
outward least greatest = from_ends (down least) (up greatest)

-- the span of one number
abbrev pub point_span : Bound → Interval
point_span b = record { lo = b; hi = b }

-- the span of the sums of a number in a and one in b
abbrev pub sum_span : Interval → Interval → Option Interval
sum_span a b = outward (value_of a.lo +ℚ value_of b.lo) (value_of a.hi +ℚ value_of b.hi)
