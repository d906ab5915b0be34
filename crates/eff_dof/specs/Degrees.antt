-- Effective degrees of freedom from parts of a variance (JCGM 100:2008, G.4.1) over spans: V²/ν is the sum of the
-- squares of the parts, each over its ν, so 1/ν is that of the squares of their shares in V. How it is rounded, that
-- the degrees are at least the least of the parts', and that they are told apart below 10^9 only, is our rule.
use Rattle.std.specs.Prelude.{ℕ, ◌*◌, Bool, true, false, not, ◌&&◌, List, [], ◌∷◌, map, filter, if◌then◌else◌, Option, None, Some, Result, Ok, Err, pos}
use Rattle.exact_fraction.specs.Number.{ℚ, of_ℤ, ◌/ℚ◌, is_at_most_ℚ}
use Rattle.decimal18.specs.Bound.{Bound, scaled, canonical, value_of}
use Rattle.decimal18.specs.Down.{down, up}
use Rattle.fixed_interval.specs.Interval.{Interval, point_span}
use Rattle.fixed_interval.specs.Extremes.{lesser, greater}
use Rattle.fixed_interval.specs.Rules.{share_span, square_span, product_span, quotient_span}
use Rattle.fixed_interval.specs.Powers.{then_span}
use Rattle.fixed_interval.specs.Sums.{sum_of, zero_span}
use Rattle.fixed_interval.specs.declared.faults.Overflow.{Overflow}
use Rattle.type_b.specs.declared.shape.Dof.{Dof}
use Rattle.type_b.specs.declared.shape.Dof.TheVariants.{Inf, Whole, Rel}
use Rattle.type_b.specs.Shapes.{is_zero}
use Rattle.table_g2.specs.Known.{told_apart}
use Rattle.table_g2.specs.declared.known.Nu.{Nu}
use Rattle.table_g2.specs.declared.known.Nu.TheVariants.{None as NoNu, Infinite, Range}
use Rattle.eff_dof.specs.declared.part.Part.{Part}

-- ---- the variance V
abbrev pub variances : List Part → List (Option Interval)
variances ps = map (λ p. Some p.variance) ps

abbrev pub variance_span : List Part → Option Interval
variance_span ps = sum_of (variances ps)

-- ---- the parts that count
abbrev pub is_finite : Dof → Bool
is_finite Inf = false
is_finite (Whole n) = true
is_finite (Rel percent) = true

-- the degrees are finite, and the variance is not [0, 0]; since none is negative, its upper end tells
abbrev pub counts : Part → Bool
counts p = is_finite p.dof && not (is_zero p.variance.hi)

-- ---- their terms
-- 1/ν = P²/5000 of an uncertainty that is itself uncertain by P percent (G.4.2)
abbrev pub inverse_of_percent : ℕ → Bound
inverse_of_percent percent = canonical (pos (2 * (percent * percent))) 4

-- divided by ν, which leaves nothing where ν is infinite
abbrev pub over_degrees : Dof → Interval → Option Interval
over_degrees Inf s = Some zero_span
over_degrees (Whole n) s = quotient_span s (point_span (scaled (pos n) 0))
over_degrees (Rel percent) s = product_span s (point_span (inverse_of_percent percent))

-- the square of the share in V, over ν
abbrev pub term : Interval → Part → Option Interval
term v p = then_span (then_span (share_span p.variance v) square_span) (over_degrees p.dof)

abbrev pub terms : Interval → List Part → List (Option Interval)
terms v ps = map (term v) (filter counts ps)

-- 1/ν of V
abbrev pub inverse_span : Interval → List Part → Option Interval
inverse_span v ps = sum_of (terms v ps)

-- ---- the least degrees
-- ν rounded down, where it is finite: the number of degrees, or 5000/P²
abbrev pub degrees_down : Dof → Option Bound
degrees_down Inf = None
degrees_down (Whole n) = Some (scaled (pos n) 0)
degrees_down (Rel percent) = down (of_ℤ (pos 5000) /ℚ of_ℤ (pos (percent * percent)))

abbrev pub counted_degrees : Part → Option Bound
counted_degrees p = if counts p then degrees_down p.dof else None

-- the lesser of two, where both are there
abbrev pub lesser_of : Option Bound → Option Bound → Option Bound
lesser_of None c = c
lesser_of (Some b) None = Some b
lesser_of (Some b) (Some c) = Some (lesser b c)

-- the least of b and the degrees of the parts that count
abbrev pub least_after : Option Bound → List Part → Option Bound
least_after b [] = b
least_after b (p ∷ ps) = least_after (lesser_of b (counted_degrees p)) ps

abbrev pub least_degrees : List Part → Option Bound
least_degrees ps = least_after None ps

-- ---- the range
abbrev pub most : Bound
most = scaled (pos told_apart) 0

-- what is out of the range of bounds is above the most degrees that are told apart
abbrev pub at_most : Option Bound → Bound
at_most None = most
at_most (Some b) = lesser b most

-- 1/b, rounded, and the most where that is greater, as it is for 0
abbrev pub inverse_by : (ℚ → Option Bound) → Bound → Bound
inverse_by rounded b = if is_zero b then most else at_most (rounded (of_ℤ (pos 1) /ℚ value_of b))

abbrev pub lower_end : Interval → Bound → Bound
lower_end t least = greater (inverse_by down t.hi) least

-- missing where 1/ν may be 0; t.lo is never below
abbrev pub upper_end : Interval → Bound → Option Bound
upper_end t lo = if is_at_most_ℚ (value_of t.lo) (of_ℤ (pos 0)) then None else Some (greater (inverse_by up t.lo) lo)

abbrev pub range : Interval → Bound → Nu
range t least = Range (lower_end t least) (upper_end t (lower_end t least))

-- ---- all
-- where there is a span of 1/ν
abbrev pub range_by : Option Interval → Bound → Result Nu Overflow
range_by None least = Err (record {})
range_by (Some t) least = Ok (range t least)

abbrev pub known_by : Interval → List Part → Option Bound → Result Nu Overflow
known_by v ps None = Ok Infinite
known_by v ps (Some least) = range_by (inverse_span v ps) least

abbrev pub known_of : Option Interval → List Part → Result Nu Overflow
known_of None ps = Err (record {})
known_of (Some v) ps = if is_zero v.hi then Ok NoNu else known_by v ps (least_degrees ps)

-- none where V is [0, 0], infinite where no part counts, and a range otherwise
unfoldable pub known_degrees : List Part → Result Nu Overflow
known_degrees ps = known_of (variance_span ps) ps
