-- Small tables, by which the definitions can be read.
use Rattle.std.specs.Prelude.{ℕ, [], ◌∷◌, ◌++◌, replicate, ℤ, pos}
use Rattle.decimal18.specs.Bound.{Bound, scaled}
use Rattle.fixed_interval.specs.Interval.{Interval}
use Rattle.type_a.specs.Tables.{Table, Record, single}

abbrev pub whole : ℕ → Bound
whole n = scaled (pos n) 0

-- ten times 1, and 2
abbrev pub eleven : Table
eleven = single (replicate 10 (whole 1) ++ whole 2 ∷ [])

-- voltages in volts and currents in milliamperes (JCGM 100:2008, Table H.2), in units of 10^-3
abbrev pub record_of : ℕ → ℕ → Record
record_of v i = scaled (pos v) 3 ∷ scaled (pos i) 3 ∷ []

abbrev pub voltage_and_current : Table
voltage_and_current =
    record_of 5007 19663
    ∷ record_of 4994 19639
    ∷ record_of 5005 19640
    ∷ (scaled (pos 499) 2 ∷ scaled (pos 19685) 3 ∷ [])
    ∷ record_of 4999 19678
    ∷ []

abbrev pub span : ℤ → ℕ → ℤ → ℕ → Interval
span a p b q = record { lo = scaled a p; hi = scaled b q }
