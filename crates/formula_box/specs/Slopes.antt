-- The span of a formula's partial derivative by a name (JCGM 100:2008, 5.1.3). Where the name does not
-- occur in a part of the formula it is the point 0 there, and no operation is made for it.
use Rattle.std.specs.Prelude.{ℕ, zero, suc, ◌-◌, ℤ, pos, negsuc, Bool, false, ◌||◌, cond, List, bytes_eq, Option, None, Some, Result, Ok, Err}
use Rattle.decimal18.specs.Bound.{scaled}
use Rattle.fixed_interval.specs.Interval.{Interval, point_span, sum_span}
use Rattle.fixed_interval.specs.Rules.{one_bound, difference_span, product_span, negative_span, quotient}
use Rattle.fixed_interval.specs.Powers.{power_span, then_span}
use Rattle.fixed_interval.specs.Sums.{zero_span, both}
use Rattle.fixed_interval.specs.declared.faults.ArithFault.{ArithFault}
use Rattle.formula_ast.specs.Trees.{Tree, Number, Variable, Opposite, Joined, Raised}
use Rattle.formula_ast.specs.declared.token.Sign.{Sign}
use Rattle.formula_ast.specs.declared.token.Sign.TheVariants.{Plus, Minus, Times, Over}
use Rattle.formula_box.specs.Values.{Answer, then_with, in_range, span_of}

-- whether the name occurs in the formula
abbrev pub occurs : List ℕ → Tree → Bool
occurs n (Number q) = false
occurs n (Variable m) = bytes_eq n m
occurs n (Opposite a) = occurs n a
occurs n (Joined s a b) = occurs n a || occurs n b
occurs n (Raised a e) = occurs n a

-- a quotient whose divisor is one of the formula's own: where that has a value, 0 is not in it
abbrev pub divided : Result Interval ArithFault → Option Interval
divided (Err fault) = None
divided (Ok s) = Some s

abbrev pub quotient_there : Interval → Interval → Option Interval
quotient_there a b = divided (quotient a b)

-- the rules, where a and b have the values v and w and the slopes d and e, and the whole has the value x:
-- d + e, d - e, d w + v e, (d - x e) / w
abbrev pub joined_slope : Sign → (v w x d e : Option Interval) → Option Interval
joined_slope Plus v w x d e = both d e sum_span
joined_slope Minus v w x d e = both d e difference_span
joined_slope Times v w x d e = both (both d w product_span) (both v e product_span) sum_span
joined_slope Over v w x d e = both (both d (both x e product_span) difference_span) w quotient_there

-- k v^(k-1), and k x / v
abbrev pub rising_factor : ℕ → Option Interval → Option Interval
rising_factor k v = both (Some (point_span (scaled (pos k) 0))) (then_span v (λ s. power_span s (k - 1))) product_span

abbrev pub falling_factor : ℤ → (v x : Option Interval) → Option Interval
falling_factor k v x = both (both (Some (point_span (scaled k 0))) x product_span) v quotient_there

-- the power by k of a, with the value v and the slope d, has the value x:
-- d for k = 1, (k v^(k-1)) d above, and (k x / v) d below 0
abbrev pub power_slope : ℤ → (v x d : Option Interval) → Option Interval
power_slope (pos zero) v x d = d
power_slope (pos (suc zero)) v x d = d
power_slope (pos (suc (suc k))) v x d = both (rising_factor (suc (suc k)) v) d product_span
power_slope (negsuc k) v x d = both (falling_factor (negsuc k) v x) d product_span

abbrev pub there : Answer → Option Interval
there (Err fault) = None
there (Ok s) = Some s

abbrev pub where_used : Bool → Option Interval → Option Interval
where_used used slope = cond used slope (Some zero_span)

-- the span of the derivative, where the formula has a value; None where an operation leaves the range
abbrev pub slope_of : (List ℕ → Option Interval) → List ℕ → Tree → Option Interval
slope_of given n (Number q) = Some zero_span
slope_of given n (Variable m) = Some (cond (bytes_eq n m) (point_span one_bound) zero_span)
slope_of given n (Opposite a) = where_used (occurs n a) (then_span (slope_of given n a) (λ d. Some (negative_span d)))
slope_of given n (Joined s a b) =
    where_used (occurs n a || occurs n b)
    (joined_slope s (there (span_of given a)) (there (span_of given b)) (there (span_of given (Joined s a b)))
    (slope_of given n a) (slope_of given n b))
slope_of given n (Raised a e) =
    where_used (occurs n a)
    (power_slope e (there (span_of given a)) (there (span_of given (Raised a e))) (slope_of given n a))

-- the span of the derivative, or the fault of the value where that has one, or else Overflow
unfoldable pub partial_of : (List ℕ → Option Interval) → List ℕ → Tree → Answer
partial_of given n f = then_with (span_of given f) (λ value. in_range (slope_of given n f))
