-- Statements of conformity by a written rule with a guard band w = r U (ILAC-G8:09/2019, 4.2.2 for
-- the form with two outcomes, 4.2.3 for the form with four): over exact values, and over intervals
-- that hold them. The exact conditions, by squares of distances, are ours.
use Rattle.std.specs.Prelude.{◌≡◌, ℕ, Bool, true, false, cond, ◌&&◌, ◌||◌, Option, Some, None, List, [], ◌∷◌, ◌++◌, pos}
use Rattle.exact_fraction.specs.Number.{ℚ, of_ℤ, ◌*ℚ◌, is_at_most_ℚ, ◌≤ℚ◌, ◌-ℚ◌}

pub data Form : Type 0 where
  Binary : Form
  FourOutcomes : Form

pub data Statement : Type 0 where
  Pass : Statement
  ConditionalPass : Statement
  ConditionalFail : Statement
  Fail : Statement

-- a rule: the limits that there are, the guard factor r, and the form
pub record Rule : Type 0 where
  pub lower : Option ℚ
  pub upper : Option ℚ
  pub guard : ℚ
  pub form : Form

-- how far y lies inside each limit
unfoldable pub above_lower : Option ℚ → ℚ → List ℚ
above_lower None y = []
above_lower (Some t) y = (y -ℚ t) ∷ []

unfoldable pub below_upper : Option ℚ → ℚ → List ℚ
below_upper None y = []
below_upper (Some t) y = (t -ℚ y) ∷ []

unfoldable pub distances : Rule → ℚ → List ℚ
distances rule y = above_lower rule.lower y ++ below_upper rule.upper y

-- W = w² = r² k² V
unfoldable pub guard_square : Rule → ℚ → ℚ → ℚ
guard_square rule k v = (rule.guard *ℚ rule.guard) *ℚ (k *ℚ k) *ℚ v

-- ---- the conditions, at one limit with the distance d
-- inside the limit
unfoldable pub is_inside : ℚ → Bool
is_inside d = is_at_most_ℚ (of_ℤ (pos 0)) d

-- inside the limit by at least the guard band
unfoldable pub is_guarded : ℚ → ℚ → Bool
is_guarded w d = is_inside d && is_at_most_ℚ w (d *ℚ d)

-- inside the limit, or outside by at most the guard band
unfoldable pub is_near : ℚ → ℚ → Bool
is_near w d = is_inside d || is_at_most_ℚ (d *ℚ d) w

-- for all limits
unfoldable pub all_of : (ℚ → Bool) → List ℚ → Bool
all_of p [] = true
all_of p (d ∷ ds) = p d && all_of p ds

-- the statement for the first condition of the form that holds
unfoldable pub stated_by : Form → Bool → Bool → Bool → Statement
stated_by Binary guarded inside near = cond guarded Pass Fail
stated_by FourOutcomes guarded inside near = cond guarded Pass (cond inside ConditionalPass (cond near ConditionalFail Fail))

unfoldable pub stated_at : Form → ℚ → List ℚ → Statement
stated_at form w ds = stated_by form (all_of (is_guarded w) ds) (all_of is_inside ds) (all_of (is_near w) ds)

-- the statement of the rule on the estimate y, the factor k and the variance v
unfoldable pub stated : Rule → ℚ → ℚ → ℚ → Statement
stated rule y k v = stated_at rule.form (guard_square rule k v) (distances rule y)

-- ---- the same over intervals
pub record Ends : Type 0 where
  pub low : ℚ
  pub high : ℚ

pub record IsWithin (x : ℚ) (ends : Ends) : Type 0 where
  pub above : ends.low ≤ℚ x
  pub below : x ≤ℚ ends.high

pub data Answer : Type 0 where
  Yes : Answer
  No : Answer
  Unsettled : Answer

-- whether what lies in the one interval is at most what lies in the other
unfoldable pub compared : Ends → Ends → Answer
compared a b = cond (is_at_most_ℚ a.high b.low) Yes (cond (is_at_most_ℚ a.low b.high) Unsettled No)

unfoldable pub both : Answer → Answer → Answer
both No b = No
both Yes b = b
both Unsettled No = No
both Unsettled Yes = Unsettled
both Unsettled Unsettled = Unsettled

unfoldable pub either : Answer → Answer → Answer
either Yes b = Yes
either No b = b
either Unsettled Yes = Yes
either Unsettled No = Unsettled
either Unsettled Unsettled = Unsettled

-- an interval that holds a distance, and one that holds its square
pub record Span : Type 0 where
  pub distance : Ends
  pub square : Ends

unfoldable pub inside_over : Span → Answer
inside_over s = compared (record { low = of_ℤ (pos 0); high = of_ℤ (pos 0) }) s.distance

unfoldable pub guarded_over : Ends → Span → Answer
guarded_over w s = both (inside_over s) (compared w s.square)

unfoldable pub near_over : Ends → Span → Answer
near_over w s = either (inside_over s) (compared s.square w)

unfoldable pub all_over : (Span → Answer) → List Span → Answer
all_over p [] = Yes
all_over p (s ∷ ss) = both (p s) (all_over p ss)

-- a statement, or the number of the condition that is not settled
pub data Decision : Type 0 where
  Stated : Statement → Decision
  Undecided : ℕ → Decision

-- where a condition is settled, it speaks or the later ones do
unfoldable pub decided : Answer → Statement → ℕ → Decision → Decision
decided Yes s n later = Stated s
decided No s n later = later
decided Unsettled s n later = Undecided n

unfoldable pub decision_by : Form → Answer → Answer → Answer → Decision
decision_by Binary guarded inside near = decided guarded Pass 1 (Stated Fail)
decision_by FourOutcomes guarded inside near =
    decided guarded Pass 1 (decided inside ConditionalPass 2 (decided near ConditionalFail 3 (Stated Fail)))

unfoldable pub decision : Form → Ends → List Span → Decision
decision form w ss =
    decision_by form (all_over (guarded_over w) ss) (all_over inside_over ss) (all_over (near_over w) ss)

-- each span holds its distance and its square
unfoldable pub AllWithin : List ℚ → List Span → Type 0
AllWithin [] [] = Unit {0}
AllWithin [] (s ∷ ss) = ⊥
AllWithin (d ∷ ds) [] = ⊥
AllWithin (d ∷ ds) (s ∷ ss) = IsWithin d s.distance × IsWithin (d *ℚ d) s.square × AllWithin ds ss

-- a settled answer is that of the test
unfoldable pub Agrees : Answer → Bool → Type 0
Agrees Yes b = b ≡ true
Agrees No b = b ≡ false
Agrees Unsettled b = Unit {0}
