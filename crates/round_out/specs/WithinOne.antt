-- Spans of numbers from 0 to 1.
use Rattle.std.specs.Prelude.{pos}
use Rattle.exact_fraction.specs.Number.{of_ℤ, ◌≤ℚ◌}
use Rattle.decimal18.specs.Bound.{value_of}
use Rattle.fixed_interval.specs.Interval.{Interval}

pub record IsWithinOne (f : Interval) : Type 0 where
  pub low : of_ℤ (pos 0) ≤ℚ value_of f.lo
  pub high : value_of f.hi ≤ℚ of_ℤ (pos 1)
