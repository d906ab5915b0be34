-- The rule by which each operation finds its span. The exact results at the ends are its corners, and
-- `outward` rounds the least of them down and the greatest up.
use Rattle.std.specs.Prelude.{◌^◌, ◌&&◌, Bool, if◌then◌else◌, Option, Result, Err, pos, ℕ}
use Rattle.std.specs.Option.{ok_or}
use Rattle.exact_fraction.specs.Number.{ℚ, of_ℤ, ◌+ℚ◌, ◌*ℚ◌, ◌/ℚ◌, neg_ℚ, is_at_most_ℚ, min_ℚ, max_ℚ}
use Rattle.exact_fraction.specs.Ratio.{value_of_ratio}
use Rattle.exact_fraction.specs.declared.ratio.Ratio.{Ratio}
use Rattle.decimal18.specs.Bound.{Bound, scaled, value_of}
use Rattle.decimal18.specs.Down.{negated}
use Rattle.fixed_interval.specs.declared.faults.ArithFault.{ArithFault}
use Rattle.fixed_interval.specs.declared.faults.ArithFault.TheVariants.{ZeroDivisor, Overflow}
use Rattle.fixed_interval.specs.declared.faults.Truth.{Truth}
use Rattle.fixed_interval.specs.declared.faults.Truth.TheVariants.{Yes, No, Unsettled}
use Rattle.fixed_interval.specs.Interval.{Interval, outward}
use Rattle.fixed_interval.specs.Extremes.{lesser, greater}

-- the number 0, and the number 1
abbrev pub zero_bound : Bound
zero_bound = scaled (pos 0) 0

abbrev pub one_bound : Bound
one_bound = scaled (pos 1) 0

-- 0 lies in s
unfoldable pub holds_zero : Interval → Bool
holds_zero s = is_at_most_ℚ (value_of s.lo) (of_ℤ (pos 0)) && is_at_most_ℚ (of_ℤ (pos 0)) (value_of s.hi)

-- the span of results with these four corners
abbrev pub corners_span : ℚ → ℚ → ℚ → ℚ → Option Interval
corners_span p q r s = outward (min_ℚ (min_ℚ p q) (min_ℚ r s)) (max_ℚ (max_ℚ p q) (max_ℚ r s))

-- the span of the differences of a number in a and one in b
abbrev pub difference_span : Interval → Interval → Option Interval
difference_span a b = outward (value_of a.lo +ℚ neg_ℚ (value_of b.hi)) (value_of a.hi +ℚ neg_ℚ (value_of b.lo))

-- the span of the products of a number in a and one in b
abbrev pub product_span : Interval → Interval → Option Interval
product_span a b =
    corners_span (value_of a.lo *ℚ value_of b.lo) (value_of a.lo *ℚ value_of b.hi)
    (value_of a.hi *ℚ value_of b.lo) (value_of a.hi *ℚ value_of b.hi)

-- the span of the squares of the numbers in a: where 0 is among these, the least square is 0
abbrev pub square_span : Interval → Option Interval
square_span a =
    let low : ℚ = value_of a.lo *ℚ value_of a.lo in
    let high : ℚ = value_of a.hi *ℚ value_of a.hi in
    outward (if holds_zero a then of_ℤ (pos 0) else min_ℚ low high) (max_ℚ low high)

-- the span of the negatives of the numbers in a
abbrev pub negative_span : Interval → Interval
negative_span a = record { lo = negated a.hi; hi = negated a.lo }

-- the span of the quotients of a number in a by one in b, where 0 is not in b
abbrev pub quotient_span : Interval → Interval → Option Interval
quotient_span a b =
    corners_span (value_of a.lo /ℚ value_of b.lo) (value_of a.lo /ℚ value_of b.hi)
    (value_of a.hi /ℚ value_of b.lo) (value_of a.hi /ℚ value_of b.hi)

-- the answer of a division: no span is divided by one in which 0 lies
unfoldable pub quotient : Interval → Interval → Result Interval ArithFault
quotient a b = if holds_zero b then Err ZeroDivisor else ok_or (quotient_span a b) Overflow

-- num / (den * 10 ^ places)
abbrev pub ratio_at : Ratio → ℕ → ℚ
ratio_at q places = value_of_ratio q /ℚ of_ℤ (pos (10 ^ places))

-- the span of a ratio at so many places
abbrev pub ratio_span : Ratio → ℕ → Option Interval
ratio_span q places = outward (ratio_at q places) (ratio_at q places)

-- both ends raised to f where they are below it
abbrev pub floored_span : Interval → Bound → Interval
floored_span a f = record { lo = greater a.lo f; hi = greater a.hi f }

-- a number brought into [low, high]
abbrev pub brought_into : Bound → Bound → Bound → Bound
brought_into low high b = lesser (greater b low) high

-- both ends brought into [low, high]
abbrev pub cut_span : Interval → Bound → Bound → Interval
cut_span a low high = record { lo = brought_into low high a.lo; hi = brought_into low high a.hi }

-- the greatest share of a part in a whole that is not less: 1 where the whole may be the part
unfoldable pub greatest_share : Interval → Interval → ℚ
greatest_share part whole =
    if is_at_most_ℚ (value_of whole.lo) (value_of part.hi) then of_ℤ (pos 1) else value_of part.hi /ℚ value_of whole.lo

-- the span of the shares q / r of a part q in a whole r that is not less
abbrev pub share_span : Interval → Interval → Option Interval
share_span part whole = outward (value_of part.lo /ℚ value_of whole.hi) (greatest_share part whole)

-- whether the numbers of a are at most those of b
unfoldable pub comparison : Interval → Interval → Truth
comparison a b =
    if is_at_most_ℚ (value_of a.hi) (value_of b.lo) then Yes
    else (if is_at_most_ℚ (value_of a.lo) (value_of b.hi) then Unsettled else No)
