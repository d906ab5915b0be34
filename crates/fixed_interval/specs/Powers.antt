-- Spans of whole powers, and how many steps these take.
use Rattle.std.specs.Prelude.{ℕ, zero, suc, ◌+◌, ◌/◌, ◌%◌, ◌==◌, if◌then◌else◌, nat_le, Option, None, Some, Result, Ok, Err, ℤ, pos, negsuc}
use Rattle.fixed_interval.specs.declared.faults.ArithFault.{ArithFault}
use Rattle.fixed_interval.specs.declared.faults.ArithFault.TheVariants.{Overflow}
use Rattle.fixed_interval.specs.Interval.{Interval, point_span}
use Rattle.fixed_interval.specs.Rules.{one_bound, product_span, square_span, quotient}

-- an operation on a span that may be missing
abbrev pub then_span : Option Interval → (Interval → Option Interval) → Option Interval
then_span None f = None
then_span (Some s) f = f s

-- the k-th power of a span, by at most `halvings` halvings of k: the square of the power by the half,
-- times the span where k is odd
abbrev pub power_by : ℕ → Interval → ℕ → Option Interval
power_by zero a k = Some a
power_by (suc halvings) a k =
    if nat_le k 1 then Some a
    else (if k % 2 == 0 then then_span (power_by halvings a (k / 2)) square_span
    else then_span (then_span (power_by halvings a (k / 2)) square_span) (λ even. product_span even a))

-- the span of the k-th powers of the numbers in a, for k at least 1
unfoldable pub power_span : Interval → ℕ → Option Interval
power_span a k = power_by k a k

-- how many steps that takes: one for each square and one for each product
abbrev pub steps_by : ℕ → ℕ → ℕ
steps_by zero k = 0
steps_by (suc halvings) k =
    if nat_le k 1 then 0
    else (if k % 2 == 0 then steps_by halvings (k / 2) + 1 else steps_by halvings (k / 2) + 2)

-- the steps of the k-th power
unfoldable pub power_steps : ℕ → ℕ
power_steps k = steps_by k k

-- 1 divided by a span, where that is there
abbrev pub inverted : Option Interval → Result Interval ArithFault
inverted None = Err Overflow
inverted (Some s) = quotient (point_span one_bound) s

abbrev pub as_answer : Option Interval → Result Interval ArithFault
as_answer None = Err Overflow
as_answer (Some s) = Ok s

-- the answer for a whole power that is not 0: the first operation that faults gives the fault
abbrev pub power : Interval → ℤ → Result Interval ArithFault
power a (pos k) = as_answer (power_span a k)
power a (negsuc k) = inverted (power_span a (suc k))

-- the steps of a whole power: two more for the inverse
abbrev pub steps_of_power : ℤ → ℕ
steps_of_power (pos k) = power_steps k
steps_of_power (negsuc k) = power_steps (suc k) + 2
