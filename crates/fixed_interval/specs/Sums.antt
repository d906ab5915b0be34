-- Operations on spans that may have left the range of bounds, and sums of such spans, from the first term on.
use Rattle.std.specs.Prelude.{◌≡◌, List, [], ◌∷◌, ◌++◌, Bool, if◌then◌else◌, Option, None, Some, IfSome, Result, Ok, Err}
use Rattle.exact_fraction.specs.Number.{ℚ}
use Rattle.fixed_interval.specs.Interval.{Interval, Encloses, point_span, sum_span}
use Rattle.fixed_interval.specs.Rules.{zero_bound}
use Rattle.fixed_interval.specs.declared.faults.Overflow.{Overflow}

abbrev pub zero_span : Interval
zero_span = point_span zero_bound

-- an operation on two spans, where both are there
abbrev pub both : Option Interval → Option Interval → (Interval → Interval → Option Interval) → Option Interval
both None t f = None
both (Some s) None f = None
both (Some s) (Some t) f = f s t

-- s, and these terms added one after another
abbrev pub sum_on : Option Interval → List (Option Interval) → Option Interval
sum_on s [] = s
sum_on s (t ∷ ts) = sum_on (both s t sum_span) ts

-- the sum of the terms from the first one on, and 0 where there is none
abbrev pub sum_of : List (Option Interval) → Option Interval
sum_of [] = Some zero_span
sum_of (t ∷ ts) = sum_on t ts

-- the same with these terms more, where `sum` is that of the terms before them, if there was one
abbrev pub sum_after : Option Interval → List (Option Interval) → Option Interval
sum_after None ts = sum_of ts
sum_after (Some s) ts = sum_on (Some s) ts

-- from `sum`, the sum before some terms, if it had begun, the answer is the sum with these terms more, whatever
-- terms follow; and Overflow where it has left the range of bounds, which no further terms bring back
abbrev pub Continues : Option Interval → List (Option Interval) → Result (Option Interval) Overflow → Type 0
Continues sum terms (Ok next) = (more : List (Option Interval)) → sum_after next more ≡ sum_after sum (terms ++ more)
Continues sum terms (Err e) = (more : List (Option Interval)) → sum_after sum (terms ++ more) ≡ None

-- one term where it counts, and none where it does not
abbrev pub term_if : Bool → Option Interval → List (Option Interval)
term_if counts term = if counts then term ∷ [] else []

-- ---- what such spans enclose
-- a span that is there encloses q
abbrev pub Holds : Option Interval → ℚ → Type 0
Holds o q = IfSome o (λ s. Encloses s q)

-- each term encloses its number
abbrev pub AllHold : List (Option Interval) → List ℚ → Type 0
AllHold [] [] = Unit {0}
AllHold [] (q ∷ qs) = ⊥
AllHold (o ∷ os) [] = ⊥
AllHold (o ∷ os) (q ∷ qs) = Holds o q × AllHold os qs
