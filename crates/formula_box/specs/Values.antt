-- The span of a formula's value, where some names have spans: operands first, the left one before the
-- right one, and the first fault in this order decides.
use Rattle.std.specs.Prelude.{ℕ, ◌+◌, ◌-◌, ◌^◌, min, List, Option, None, Some, Result, Ok, Err}
use Rattle.fixed_interval.specs.Interval.{Interval, point_span, sum_span}
use Rattle.fixed_interval.specs.Rules.{difference_span, product_span, negative_span, quotient}
use Rattle.fixed_interval.specs.Powers.{power}
use Rattle.fixed_interval.specs.declared.faults.ArithFault.{ArithFault}
use Rattle.fixed_interval.specs.declared.faults.ArithFault.TheVariants.{Overflow}
use Rattle.formula_ast.specs.Trees.{Tree, Number, Variable, Opposite, Joined, Raised}
use Rattle.formula_ast.specs.declared.token.Sign.{Sign}
use Rattle.formula_ast.specs.declared.token.Sign.TheVariants.{Plus, Minus, Times, Over}
use Rattle.formula_box.specs.declared.fault.EvalFault.{EvalFault}
use Rattle.formula_box.specs.declared.fault.EvalFault.TheVariants.{Arith, NoValue}

-- uses of names are counted from 0, and at 2^64 - 1 no further
abbrev pub next_use : ℕ → ℕ
next_use k = min (k + 1) (2 ^ 64 - 1)

-- the number of the use after those in the formula, which begin with use k
abbrev pub use_after : ℕ → Tree → ℕ
use_after k (Number q) = k
use_after k (Variable n) = next_use k
use_after k (Opposite a) = use_after k a
use_after k (Joined s a b) = use_after (use_after k a) b
use_after k (Raised a e) = use_after k a

abbrev pub Answer : Type 0
Answer = Result Interval EvalFault

-- goes on with the span, where there is no fault
abbrev pub then_with : Answer → (Interval → Answer) → Answer
then_with (Err fault) next = Err fault
then_with (Ok s) next = next s

abbrev pub in_range : Option Interval → Answer
in_range None = Err (Arith Overflow)
in_range (Some s) = Ok s

abbrev pub arithmetic : Result Interval ArithFault → Answer
arithmetic (Err fault) = Err (Arith fault)
arithmetic (Ok s) = Ok s

-- use k of a name
abbrev pub used : ℕ → Option Interval → Answer
used k None = Err (NoValue k)
used k (Some s) = Ok s

abbrev pub joined_span : Sign → Interval → Interval → Answer
joined_span Plus a b = in_range (sum_span a b)
joined_span Minus a b = in_range (difference_span a b)
joined_span Times a b = in_range (product_span a b)
joined_span Over a b = arithmetic (quotient a b)

-- the span of a formula whose uses of names begin with use k
abbrev pub span_from : (List ℕ → Option Interval) → ℕ → Tree → Answer
span_from given k (Number q) = Ok (point_span q)
span_from given k (Variable n) = used k (given n)
span_from given k (Opposite a) = then_with (span_from given k a) (λ s. Ok (negative_span s))
span_from given k (Joined s a b) =
    then_with (span_from given k a) (λ left. then_with (span_from given (use_after k a) b) (λ right. joined_span s left right))
span_from given k (Raised a e) = then_with (span_from given k a) (λ s. arithmetic (power s e))

-- the span of the formula, or its first fault
unfoldable pub span_of : (List ℕ → Option Interval) → Tree → Answer
span_of given f = span_from given 0 f
