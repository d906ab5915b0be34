-- How an input's uncertainty is stated (JCGM 100:2008, 4.3), and with how many degrees of freedom.
use Rattle.std.specs.Prelude.{ℕ, ◌*◌, ◌^◌, ◌==◌, ◌&&◌, ◌||◌, not, nat_le, Bool, true, false, if◌then◌else◌, Result, Ok, Err, ℤ, pos, negsuc, int_le, IsTrue}
use Rattle.exact_fraction.specs.Fraction.{is_zero_ℤ}
use Rattle.exact_fraction.specs.Number.{ℚ, of_ℤ, ◌/ℚ◌}
use Rattle.decimal18.specs.Bound.{Bound, IsDecimal}
use Rattle.type_b.specs.declared.shape.Shape.{Shape}
use Rattle.type_b.specs.declared.shape.Shape.TheVariants.{Exact, Std, Exp, Norm, Rect, Tri, Trap, Arcsine}
use Rattle.type_b.specs.declared.shape.Dof.{Dof}
use Rattle.type_b.specs.declared.shape.Dof.TheVariants.{Inf, Whole, Rel}
use Rattle.type_b.specs.declared.shape.ShapeFault.{ShapeFault}
use Rattle.type_b.specs.declared.shape.ShapeFault.TheVariants.{Negative, ZeroK, Beta, Level}

-- its numbers are bounds in canonical form
abbrev pub HasDecimals : Shape → Type 0
HasDecimals Exact = Unit {0}
HasDecimals (Std u) = IsDecimal u
HasDecimals (Exp expanded k) = IsDecimal expanded × IsDecimal k
HasDecimals (Norm half level) = IsDecimal half
HasDecimals (Rect half) = IsDecimal half
HasDecimals (Tri half) = IsDecimal half
HasDecimals (Trap half beta) = IsDecimal half × IsDecimal beta
HasDecimals (Arcsine half) = IsDecimal half

-- ---- numbers, told by their digits; what this says of their values is proved in `src/laws.rt`

-- a number below 0 has a negative coefficient
abbrev pub below_zero : ℤ → Bool
below_zero (pos n) = false
below_zero (negsuc n) = true

abbrev pub is_negative : Bound → Bool
is_negative b = below_zero b.coefficient

-- 0 is the number with the coefficient 0
abbrev pub is_zero : Bound → Bool
is_zero b = is_zero_ℤ b.coefficient

-- a number above 1 has a coefficient that is not at most the power of ten by which it is divided
abbrev pub is_above_one : Bound → Bool
is_above_one b = not (int_le b.coefficient (pos (10 ^ b.places)))

-- ---- when a shape states an uncertainty: these rules are this project's own

-- an uncertainty, a half-width or a coverage factor is below 0
abbrev pub has_negative : Shape → Bool
has_negative Exact = false
has_negative (Std u) = is_negative u
has_negative (Exp expanded k) = is_negative expanded || is_negative k
has_negative (Norm half level) = is_negative half
has_negative (Rect half) = is_negative half
has_negative (Tri half) = is_negative half
has_negative (Trap half beta) = is_negative half
has_negative (Arcsine half) = is_negative half

-- the coverage factor is 0
abbrev pub has_zero_factor : Shape → Bool
has_zero_factor (Exp expanded k) = is_zero k
has_zero_factor _ = false

-- the top of a trapezoid is no share of its base from 0 to 1
abbrev pub has_wrong_beta : Shape → Bool
has_wrong_beta (Trap half beta) = is_negative beta || is_above_one beta
has_wrong_beta _ = false

-- the levels of confidence, in percent, for which a normal distribution's factor is stated (4.3.4)
abbrev pub is_level : ℕ → Bool
is_level level = level == 90 || (level == 95 || level == 99)

abbrev pub has_other_level : Shape → Bool
has_other_level (Norm half level) = not (is_level level)
has_other_level _ = false

-- the first rule that a shape breaks
abbrev pub checked : Shape → Result Unit ShapeFault
checked s =
    if has_negative s then Err Negative
    else (if has_zero_factor s then Err ZeroK
    else (if has_wrong_beta s then Err Beta
    else (if has_other_level s then Err Level else Ok (record {}))))

-- ---- degrees of freedom: the limits are this project's own

abbrev pub most_degrees : ℕ
most_degrees = 1000000

-- by 71 percent there would be less than one degree
abbrev pub most_percent : ℕ
most_percent = 70

-- whether an input may have these degrees of freedom
abbrev pub are_degrees : Dof → Bool
are_degrees Inf = true
are_degrees (Whole n) = nat_le 1 n && nat_le n most_degrees
are_degrees (Rel p) = nat_le 1 p && nat_le p most_percent

-- the same as a fact
abbrev pub IsDegrees : Dof → Type 0
IsDegrees dof = IsTrue (are_degrees dof)

-- 1/ν, which is 0 for infinite degrees. An uncertainty that is itself uncertain by p percent has
-- ν = 1/2 (p / 100)^-2 = 5000 / p² (G.4.2, formula G.3)
abbrev pub inverse_degrees : Dof → ℚ
inverse_degrees Inf = of_ℤ (pos 0)
inverse_degrees (Whole n) = of_ℤ (pos 1) /ℚ of_ℤ (pos n)
inverse_degrees (Rel p) = of_ℤ (pos (p * p)) /ℚ of_ℤ (pos 5000)
