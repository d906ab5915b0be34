-- The lesser and the greater of two decimal numbers, and the span that covers two.
use Rattle.std.specs.Prelude.{if◌then◌else◌, Option, None, Some}
use Rattle.exact_fraction.specs.Number.{is_at_most_ℚ}
use Rattle.decimal18.specs.Bound.{Bound, value_of}
use Rattle.fixed_interval.specs.Interval.{Interval}

-- the lesser of two decimal numbers
unfoldable pub lesser : Bound → Bound → Bound
lesser b c = if is_at_most_ℚ (value_of b) (value_of c) then b else c

-- the greater of two decimal numbers
unfoldable pub greater : Bound → Bound → Bound
greater b c = if is_at_most_ℚ (value_of b) (value_of c) then c else b

-- the least span that covers both, where both are there
abbrev pub hull : Option Interval → Option Interval → Option Interval
hull None t = None
hull (Some s) None = None
hull (Some s) (Some t) = Some (record { lo = lesser s.lo t.lo; hi = greater s.hi t.hi })
