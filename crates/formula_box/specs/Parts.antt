-- What one pass through a formula finds of each part: its derivative by a name, where no operation is made for an
-- operand in which the name does not occur, and its value, where the rules ask for it.
use Rattle.std.specs.Prelude.{◌≡◌, ℕ, Bool, true, cond, List, Option, Result, Ok, Err, is_some}
use Rattle.fixed_interval.specs.Interval.{Interval, sum_span}
use Rattle.fixed_interval.specs.Rules.{difference_span, product_span}
use Rattle.fixed_interval.specs.Sums.{both}
use Rattle.formula_ast.specs.Trees.{Tree, Number, Variable, Opposite, Joined, Raised}
use Rattle.formula_ast.specs.declared.token.Sign.{Sign}
use Rattle.formula_ast.specs.declared.token.Sign.TheVariants.{Plus, Minus, Times, Over}
use Rattle.formula_box.specs.Values.{span_from, span_of}
use Rattle.formula_box.specs.Slopes.{occurs, slope_of, there, where_used, joined_slope, quotient_there}
use Rattle.formula_box.specs.declared.fault.EvalFault.{EvalFault}
use Rattle.formula_box.specs.declared.slope.Part.{Part}
use Rattle.formula_box.specs.declared.slope.Slope.{Slope}

-- the formula has a value
abbrev pub has_value : (List ℕ → Option Interval) → Tree → Bool
has_value given f = is_some (there (span_of given f))

-- so has each of its parts
abbrev pub AllHaveValues : (List ℕ → Option Interval) → Tree → Type 0
AllHaveValues given (Number q) = has_value given (Number q) ≡ true
AllHaveValues given (Variable n) = has_value given (Variable n) ≡ true
AllHaveValues given (Opposite a) = (has_value given (Opposite a) ≡ true) × AllHaveValues given a
AllHaveValues given (Joined s a b) = (has_value given (Joined s a b) ≡ true) × (AllHaveValues given a × AllHaveValues given b)
AllHaveValues given (Raised a e) = (has_value given (Raised a e) ≡ true) × AllHaveValues given a

-- the rule of a sign where the name occurs in the operands so: what an operand without it brings is left out
abbrev pub short_slope : Sign → (left right : Bool) → (v w x d e : Option Interval) → Option Interval
short_slope Plus left right v w x d e = cond left (cond right (both d e sum_span) d) e
short_slope Minus left right v w x d e = cond right (both d e difference_span) d
short_slope Times left right v w x d e =
    cond right (cond left (joined_slope Times v w x d e) (both v e product_span)) (where_used left (both d w product_span))
short_slope Over left right v w x d e = cond right (joined_slope Over v w x d e) (where_used left (both d w quotient_there))

-- the part has this derivative
abbrev pub IsSlopeOf : (List ℕ → Option Interval) → List ℕ → Tree → Slope → Type 0
IsSlopeOf given n f d = (d.used ≡ occurs n f) × (d.span ≡ slope_of given n f)

-- the part has this value and this derivative, or its value has this fault; the uses of names in it begin with use k
abbrev pub IsPartOf : (List ℕ → Option Interval) → List ℕ → ℕ → Tree → Result Part EvalFault → Type 0
IsPartOf given n k f (Err fault) = span_from given k f ≡ Err fault
IsPartOf given n k f (Ok p) = (span_from given k f ≡ Ok p.value) × IsSlopeOf given n f p.slope
