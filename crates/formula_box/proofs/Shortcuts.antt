-- The derivative of a part that has a value, from those of its operands and the values that are found.
use Rattle.std.specs.Prelude.{◌≡◌, ℕ, ◌+◌, ◌≤◌, Bool, true, false, ◌||◌, List, Option, None, Some, Result, Ok, Err, is_some, refl}
use Rattle.std.specs.Option.{ok_or}
use Rattle.std.specs.Result.{IsOk}
use Rattle.std.proofs.Common.{arith, sym, ◌∙◌, ap, ap₂}
use Rattle.fixed_interval.specs.Interval.{Interval}
use Rattle.fixed_interval.specs.Rules.{product_span}
use Rattle.fixed_interval.specs.Sums.{both, zero_span}
use Rattle.fixed_interval.specs.declared.faults.Overflow.{Overflow}
use Rattle.formula_ast.specs.Trees.{Tree, Number, Variable, Opposite, Joined, Raised, HasExponents}
use Rattle.formula_ast.specs.declared.token.Sign.{Sign}
use Rattle.formula_ast.specs.declared.token.Sign.TheVariants.{Times, Over}
use Rattle.formula_box.specs.Values.{Answer, then_with, in_range, span_of}
use Rattle.formula_box.specs.Slopes.{occurs, there, quotient_there, where_used, slope_of, partial_of}
use Rattle.formula_box.specs.Costs.{value_cost, partial_cost}
use Rattle.formula_box.specs.Parts.{has_value, AllHaveValues, short_slope, IsSlopeOf, IsPartOf}
use Rattle.formula_box.specs.declared.fault.EvalFault.{EvalFault}
use Rattle.formula_box.specs.declared.slope.Part.{Part}
use Rattle.formula_box.specs.declared.slope.Slope.{Slope}
use Rattle.formula_box.proofs.Absent.{absent_slope, short_slope_is}
use Rattle.formula_box.proofs.Parting.{own_value}
use Rattle.formula_box.proofs.Ticks.{few_steps_of_power}

-- ---- operands that are joined
joined_slope_of : (given : List ℕ → Option Interval) (n : List ℕ) (s : Sign) (a b : Tree) (r : Slope) → AllHaveValues given (Joined s a b)
    → r.used ≡ (occurs n a || occurs n b)
    → r.span ≡ short_slope s (occurs n a) (occurs n b) (there (span_of given a)) (there (span_of given b)) (there (span_of given (Joined s a b)))
    (slope_of given n a) (slope_of given n b)
    → IsSlopeOf given n (Joined s a b) r
joined_slope_of given n s a b r h used span =
    (used, span ∙ short_slope_is given n s a b _ _ _ (own_value given a h.1.0) (own_value given b h.1.1) h.0)

-- a sum or a difference
pub added_slope : (given : List ℕ → Option Interval) (n : List ℕ) (s : Sign) (a b : Tree) (d e r : Slope) → AllHaveValues given (Joined s a b)
    → IsSlopeOf given n a d → IsSlopeOf given n b e → r.used ≡ (d.used || e.used)
    → ((v w x : Option Interval) → r.span ≡ short_slope s d.used e.used v w x d.span e.span)
    → IsSlopeOf given n (Joined s a b) r
added_slope given n s a b d e r h k l used span =
    joined_slope_of given n s a b r h (used ∙ ap₂ ◌||◌ k.0 l.0)
    (span (there (span_of given a)) (there (span_of given b)) (there (span_of given (Joined s a b))) ∙ rw (k.0, l.0, k.1, l.1) refl)

or_false : (t : Bool) → t ≡ (t || false)
or_false true = refl
or_false false = refl

-- the name is in the left operand alone
pub left_factor : (given : List ℕ → Option Interval) (n : List ℕ) (a b : Tree) (d r : Slope) (t : Bool) → AllHaveValues given (Joined Times a b)
    → IsSlopeOf given n a d → t ≡ occurs n b → t ≡ false → r.used ≡ d.used
    → r.span ≡ where_used d.used (both d.span (there (span_of given b)) product_span)
    → IsSlopeOf given n (Joined Times a b) r
left_factor given n a b d r t h k is off used span =
    let none : occurs n b ≡ false = sym is ∙ off in
    joined_slope_of given n Times a b r h (used ∙ k.0 ∙ rw none (or_false (occurs n a))) (span ∙ rw (none, k.0, k.1) refl)

pub dividend_alone : (given : List ℕ → Option Interval) (n : List ℕ) (a b : Tree) (d r : Slope) (t : Bool) → AllHaveValues given (Joined Over a b)
    → IsSlopeOf given n a d → t ≡ occurs n b → t ≡ false → r.used ≡ d.used
    → r.span ≡ where_used d.used (both d.span (there (span_of given b)) quotient_there)
    → IsSlopeOf given n (Joined Over a b) r
dividend_alone given n a b d r t h k is off used span =
    let none : occurs n b ≡ false = sym is ∙ off in
    joined_slope_of given n Over a b r h (used ∙ k.0 ∙ rw none (or_false (occurs n a))) (span ∙ rw (none, k.0, k.1) refl)

-- the name is in the right factor alone
pub right_factor : (given : List ℕ → Option Interval) (n : List ℕ) (a b : Tree) (e r : Slope) (t u : Bool) → AllHaveValues given (Joined Times a b)
    → IsSlopeOf given n b e → t ≡ occurs n b → t ≡ true → u ≡ occurs n a → u ≡ false → r.used ≡ true
    → r.span ≡ both (there (span_of given a)) e.span product_span
    → IsSlopeOf given n (Joined Times a b) r
right_factor given n a b e r t u h k is on not off used span =
    let some : occurs n b ≡ true = sym is ∙ on in
    let none : occurs n a ≡ false = sym not ∙ off in
    joined_slope_of given n Times a b r h (used ∙ rw (some, none) refl) (span ∙ rw (some, none, k.1) refl)

-- ---- parts whose derivative is found with their values
pub absent_part : (given : List ℕ → Option Interval) (n : List ℕ) (f : Tree) (r : Slope) (t : Bool) → t ≡ occurs n f → t ≡ false
    → r.used ≡ false → r.span ≡ Some zero_span → IsSlopeOf given n f r
absent_part given n f r t is off used span =
    let none : occurs n f ≡ false = sym is ∙ off in
    (used ∙ sym none, span ∙ sym (absent_slope given n f none))

pub part_there : (given : List ℕ → Option Interval) (n : List ℕ) (f : Tree) → has_value given f ≡ true → (r : Result Part EvalFault) → IsPartOf given n 0 f r → IsOk r
unfolding span_of
part_there given n f h (Err fault) e = absurd (cc (h, e))
part_there given n f h (Ok p) e = refl

-- ---- the whole formula
pub whole_slope : (given : List ℕ → Option Interval) (n : List ℕ) (f : Tree) (d : Slope) (r : Result Interval Overflow) → has_value given f ≡ true
    → IsSlopeOf given n f d → r ≡ ok_or d.span (record {}) → r ≡ ok_or (there (partial_of given n f)) (record {})
unfolding partial_of
whole_slope given n f d r h k e = e ∙ ap (λ o. ok_or o (record {})) (k.1 ∙ by (span_of given f) h (slope_of given n f)) where
  by : (a : Answer) → is_some (there a) ≡ true → (o : Option Interval) → o ≡ there (then_with a (λ value. in_range o))
  by (Err fault) g o = absurd (cc)
  by (Ok s) g (Some t) = refl
  by (Ok s) g None = refl

-- ---- steps
pub value_within : (f : Tree) → HasExponents f → value_cost f ≤ partial_cost f
value_within (Number q) h = omega arith
value_within (Variable n) h = omega arith
value_within (Opposite a) h = omega (arith, value_within a h)
value_within (Joined s a b) h = omega (arith, value_within a h.0, value_within b h.1)
value_within (Raised a e) h = omega (arith, value_within a h.0, few_steps_of_power e h.1)

-- the derivative of one operand, the value of the other, and one operation
pub operand_ticks : (s : Sign) (a b : Tree) (before between after : ℕ) → HasExponents b → between ≤ before + partial_cost a
    → after ≤ between + value_cost b + 1 → after ≤ before + partial_cost (Joined s a b)
operand_ticks s a b before between after h k l = omega (arith, value_within b h, k, l)

pub operand_ticks_right : (s : Sign) (a b : Tree) (before between after : ℕ) → HasExponents a → between ≤ before + partial_cost b
    → after ≤ between + value_cost a + 1 → after ≤ before + partial_cost (Joined s a b)
operand_ticks_right s a b before between after h k l = omega (arith, value_within a h, k, l)
