-- The mean of a column and the covariance of the means of two, exact and as spans.
use Rattle.std.specs.Prelude.{ℕ, Option, length}
use Rattle.exact_fraction.specs.Number.{ℚ}
use Rattle.exact_law.specs.Law.{mean, joint}
use Rattle.decimal18.specs.Bound.{value_of}
use Rattle.fixed_interval.specs.Interval.{Interval, outward}
use Rattle.type_a.specs.Tables.{Table, reading_at}

-- the exact value that the column reads, record by record
abbrev pub exact_reading : Table → ℕ → ℕ → ℚ
exact_reading t column row = value_of (reading_at t row column)

-- the mean (JCGM 100:2008, 4.2.1)
abbrev pub exact_mean : Table → ℕ → ℚ
exact_mean t column = mean (length t) (exact_reading t column)

-- the covariance of the means of two columns (5.2.3, H.2), for one column the variance of its mean (4.2.3)
abbrev pub exact_joint : Table → ℕ → ℕ → ℚ
exact_joint t a b = joint (length t) (exact_reading t a) (exact_reading t b)

-- their spans: the exact number, rounded outwards
abbrev pub mean_span : Table → ℕ → Option Interval
mean_span t column = outward (exact_mean t column) (exact_mean t column)

abbrev pub joint_span : Table → ℕ → ℕ → Option Interval
joint_span t a b = outward (exact_joint t a b) (exact_joint t a b)
