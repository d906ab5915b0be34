-- The variance of an input by how its uncertainty is stated (JCGM 100:2008, 4.3), exactly and as a span.
use Rattle.std.specs.Prelude.{ℕ, ◌==◌, Bool, true, false, if◌then◌else◌, Option, Some, None, pos}
use Rattle.exact_fraction.specs.Number.{ℚ, of_ℤ, ◌+ℚ◌, ◌*ℚ◌, ◌/ℚ◌}
use Rattle.decimal18.specs.Bound.{Bound, scaled, value_of}
use Rattle.fixed_interval.specs.Interval.{Interval, point_span, sum_span}
use Rattle.fixed_interval.specs.Rules.{zero_bound, one_bound, product_span, quotient_span, square_span}
use Rattle.fixed_interval.specs.Powers.{then_span}
use Rattle.fixed_interval.specs.Sums.{both}
use Rattle.type_b.specs.declared.shape.Shape.{Shape}
use Rattle.type_b.specs.declared.shape.Shape.TheVariants.{Exact, Std, Exp, Norm, Rect, Tri, Trap, Arcsine}

-- how many standard deviations the half-width of an interval has at the level of confidence of 90, 95 or
-- 99 percent, where the distribution is normal (4.3.4)
abbrev pub normal_factor : ℕ → Bound
normal_factor level =
    if level == 90 then scaled (pos 164) 2
    else (if level == 95 then scaled (pos 196) 2 else scaled (pos 258) 2)

-- ---- exact numbers
abbrev pub square : ℚ → ℚ
square x = x *ℚ x

-- the variance: 0 without uncertainty, else the square of the standard deviation (4.2.3), or by the
-- distribution (4.3.7, 4.3.9, H.1.3.4)
abbrev pub variance_of : Shape → ℚ
variance_of Exact = of_ℤ (pos 0)
variance_of (Std u) = square (value_of u)
variance_of (Exp expanded k) = square (value_of expanded /ℚ value_of k)
variance_of (Norm half level) = square (value_of half /ℚ value_of (normal_factor level))
variance_of (Rect half) = square (value_of half) /ℚ of_ℤ (pos 3)
variance_of (Tri half) = square (value_of half) /ℚ of_ℤ (pos 6)
variance_of (Trap half beta) = (square (value_of half) *ℚ (of_ℤ (pos 1) +ℚ square (value_of beta))) /ℚ of_ℤ (pos 6)
variance_of (Arcsine half) = square (value_of half) /ℚ of_ℤ (pos 2)

-- the shape states the standard deviation, by a number or by the quotient of two
abbrev pub states_deviation : Shape → Bool
states_deviation (Std u) = true
states_deviation (Exp expanded k) = true
states_deviation (Norm half level) = true
states_deviation _ = false

-- the standard deviation that is stated (4.3.3, 4.3.4); where none is, this is 0, and means nothing
abbrev pub deviation_of : Shape → ℚ
deviation_of (Std u) = value_of u
deviation_of (Exp expanded k) = value_of expanded /ℚ value_of k
deviation_of (Norm half level) = value_of half /ℚ value_of (normal_factor level)
deviation_of _ = of_ℤ (pos 0)

-- ---- spans; the operations stand in this order, and the first that leaves the range of bounds leaves none
abbrev pub square_of : Bound → Option Interval
square_of b = square_span (point_span b)

-- the span of the quotients by one number
abbrev pub divided : Option Interval → Bound → Option Interval
divided s b = then_span s (λ a. quotient_span a (point_span b))

-- the span of the standard deviation that is stated
abbrev pub deviation_span : Shape → Option Interval
deviation_span (Std u) = Some (point_span u)
deviation_span (Exp expanded k) = divided (Some (point_span expanded)) k
deviation_span (Norm half level) = divided (Some (point_span half)) (normal_factor level)
deviation_span _ = None

-- the span of the sums of 1 and a square
abbrev pub one_and_square_of : Bound → Option Interval
one_and_square_of b = then_span (square_of b) (λ s. sum_span (point_span one_bound) s)

-- the span of the variance
abbrev pub variance_span : Shape → Option Interval
variance_span Exact = Some (point_span zero_bound)
variance_span (Std u) = square_of u
variance_span (Exp expanded k) = then_span (divided (Some (point_span expanded)) k) square_span
variance_span (Norm half level) = then_span (divided (Some (point_span half)) (normal_factor level)) square_span
variance_span (Rect half) = divided (square_of half) (scaled (pos 3) 0)
variance_span (Tri half) = divided (square_of half) (scaled (pos 6) 0)
variance_span (Trap half beta) = divided (both (square_of half) (one_and_square_of beta) product_span) (scaled (pos 6) 0)
variance_span (Arcsine half) = divided (square_of half) (scaled (pos 2) 0)

-- ---- how many spans are made, points included
abbrev pub steps_of_deviation : Shape → ℕ
steps_of_deviation (Std u) = 1
steps_of_deviation (Exp expanded k) = 3
steps_of_deviation (Norm half level) = 3
steps_of_deviation _ = 0

abbrev pub steps_of_variance : Shape → ℕ
steps_of_variance Exact = 1
steps_of_variance (Std u) = 2
steps_of_variance (Exp expanded k) = 4
steps_of_variance (Norm half level) = 4
steps_of_variance (Rect half) = 4
steps_of_variance (Tri half) = 4
steps_of_variance (Trap half beta) = 9
steps_of_variance (Arcsine half) = 4
