-- The value and the derivative of a part of a formula, from those of its operands.
use Rattle.std.specs.Prelude.{◌≡◌, ℕ, ℤ, true, ◌||◌, List, Option, Some, None, Ok, Err, is_some, refl}
use Rattle.std.proofs.Common.{sym, ◌∙◌, ap, ap₂}
use Rattle.fixed_interval.specs.Interval.{Interval}
use Rattle.fixed_interval.specs.Powers.{power, then_span}
use Rattle.formula_ast.specs.Trees.{Tree, Number, Variable, Opposite, Joined, Raised}
use Rattle.formula_ast.specs.declared.token.Sign.{Sign}
use Rattle.formula_box.specs.Values.{Answer, then_with, arithmetic, used, use_after, joined_span, span_from, span_of, in_range}
use Rattle.formula_box.specs.Slopes.{there, where_used, power_slope, partial_of}
use Rattle.formula_box.specs.Parts.{IsPartOf, has_value, AllHaveValues, short_slope}
use Rattle.formula_box.proofs.Absent.{short_slope_is}
use Rattle.formula_box.specs.declared.fault.EvalFault.{EvalFault}
use Rattle.formula_box.specs.declared.fault.EvalFault.TheVariants.{Arith}
use Rattle.fixed_interval.specs.declared.faults.ArithFault.TheVariants.{Overflow}
use Rattle.std.specs.Option.{ok_or}
use Rattle.formula_box.specs.declared.slope.Part.{Part}

there-then : (r : Answer) (next : Interval → Answer) → there (then_with r next) ≡ then_span (there r) (λ s. there (next s))
there-then (Err fault) next = refl
there-then (Ok s) next = refl

there-used : (k j : ℕ) (s : Option Interval) → there (used k s) ≡ there (used j s)
there-used k j None = refl
there-used k j (Some s) = refl

then_same : (o p : Option Interval) (f g : Interval → Option Interval) → o ≡ p → ((s : Interval) → f s ≡ g s) → then_span o f ≡ then_span p g
then_same None p f g e h = rw (← e) refl
then_same (Some s) p f g e h = rw (← e) (h s)

-- where a formula's uses begin changes only the number of a use without a value
pub there-from : (given : List ℕ → Option Interval) (k j : ℕ) (f : Tree) → there (span_from given k f) ≡ there (span_from given j f)
there-from given k j (Number q) = refl
there-from given k j (Variable n) = there-used k j (given n)
there-from given k j (Opposite a) =
    there-then (span_from given k a) _
    ∙ then_same _ _ _ _ (there-from given k j a) (λ s. refl)
    ∙ sym (there-then (span_from given j a) _)
there-from given k j (Joined s a b) =
    there-then (span_from given k a) _
    ∙ then_same _ _ _ _ (there-from given k j a)
    (λ x. there-then (span_from given (use_after k a) b) _
    ∙ then_same _ _ _ _ (there-from given (use_after k a) (use_after j a) b) (λ y. refl)
    ∙ sym (there-then (span_from given (use_after j a) b) _))
    ∙ sym (there-then (span_from given j a) _)
there-from given k j (Raised a e) =
    there-then (span_from given k a) _
    ∙ then_same _ _ _ _ (there-from given k j a) (λ s. refl)
    ∙ sym (there-then (span_from given j a) _)

pub there_is : (given : List ℕ → Option Interval) (k : ℕ) (f : Tree) (s : Interval) → span_from given k f ≡ Ok s → there (span_of given f) ≡ Some s
unfolding span_of
there_is given k f s e = there-from given 0 k f ∙ ap there e

-- ---- parts of a formula that has a value
value_then : (r : Answer) (next : Interval → Answer) → is_some (there (then_with r next)) ≡ true → is_some (there r) ≡ true
value_then (Err fault) next h = absurd (cc)
value_then (Ok s) next h = refl

value_next : (r q : Answer) (next : Interval → Interval → Answer) → is_some (there (then_with r (λ x. then_with q (next x)))) ≡ true
    → is_some (there q) ≡ true
value_next (Err fault) q next h = absurd (cc)
value_next (Ok s) q next h = value_then q (next s) h

value_from_right : (given : List ℕ → Option Interval) (s : Sign) (a b : Tree) → has_value given (Joined s a b) ≡ true → has_value given b ≡ true
unfolding span_of
value_from_right given s a b h =
    ap is_some (there-from given 0 (use_after 0 a) b)
    ∙ value_next (span_from given 0 a) (span_from given (use_after 0 a) b) (λ x y. joined_span s x y) h

pub all_values : (given : List ℕ → Option Interval) (f : Tree) → has_value given f ≡ true → AllHaveValues given f
unfolding span_of
all_values given (Number q) h = h
all_values given (Variable n) h = h
all_values given (Opposite a) h = (h, all_values given a (value_then (span_from given 0 a) _ h))
all_values given (Joined s a b) h =
    (h, (all_values given a (value_then (span_from given 0 a) _ h), all_values given b (value_from_right given s a b h)))
all_values given (Raised a e) h = (h, all_values given a (value_then (span_from given 0 a) _ h))

pub own_value : (given : List ℕ → Option Interval) (f : Tree) → AllHaveValues given f → has_value given f ≡ true
own_value given (Number q) h = h
own_value given (Variable n) h = h
own_value given (Opposite a) h = h.0
own_value given (Joined s a b) h = h.0
own_value given (Raised a e) h = h.0

-- ---- the whole from its operands
pub joined_part : (given : List ℕ → Option Interval) (n : List ℕ) (k j : ℕ) (s : Sign) (a b : Tree) (p q r : Part)
    → IsPartOf given n k a (Ok p) → j ≡ use_after k a → IsPartOf given n j b (Ok q)
    → Ok r.value ≡ joined_span s p.value q.value
    → r.slope.used ≡ (p.slope.used || q.slope.used)
    → r.slope.span ≡ short_slope s p.slope.used q.slope.used (Some p.value) (Some q.value) (Some r.value) p.slope.span q.slope.span
    → IsPartOf given n k (Joined s a b) (Ok r)
joined_part given n k j s a b p q r left after right value used span =
    let is : span_from given k (Joined s a b) ≡ Ok r.value =
    rw (left.0, ← after, right.0) (sym value) in (
      is,
      (
        used ∙ ap₂ ◌||◌ left.1.0 right.1.0,
        span ∙ rw (
          there_is given k a p.value left.0,
          there_is given j b q.value right.0,
          there_is given k (Joined s a b) r.value is,
          left.1.0,
          right.1.0,
          left.1.1,
          right.1.1,
        ) (short_slope_is given n s a b (Some p.value) (Some q.value) (Some r.value) refl refl refl),
      ),
    )

pub power_part : (given : List ℕ → Option Interval) (n : List ℕ) (k : ℕ) (e z w : ℤ) (a : Tree) (p r : Part)
    → z ≡ e → w ≡ e → IsPartOf given n k a (Ok p)
    → Ok r.value ≡ arithmetic (power p.value z)
    → r.slope.used ≡ p.slope.used
    → r.slope.span ≡ where_used p.slope.used (power_slope w (Some p.value) (Some r.value) p.slope.span)
    → IsPartOf given n k (Raised a e) (Ok r)
power_part given n k e z w a p r same same' base value used span' =
    let span = rw same' at span' in
    let is : span_from given k (Raised a e) ≡ Ok r.value = rw (base.0, ← same) (sym value) in (
      is,
      (
        used ∙ base.1.0,
        span ∙ rw (there_is given k a p.value base.0, there_is given k (Raised a e) r.value is, base.1.0, base.1.1) refl,
      ),
    )

-- ---- the whole formula
pub partial_fault : (given : List ℕ → Option Interval) (n : List ℕ) (f : Tree) (fault : EvalFault) (r : Answer)
    → r ≡ Err fault → span_from given 0 f ≡ Err fault → r ≡ partial_of given n f
unfolding partial_of span_of
partial_fault given n f fault r e h = rw (h, e) refl

pub partial_there : (given : List ℕ → Option Interval) (n : List ℕ) (f : Tree) (p : Part) (r : Answer)
    → IsPartOf given n 0 f (Ok p) → r ≡ ok_or p.slope.span (Arith Overflow) → r ≡ partial_of given n f
unfolding partial_of span_of
partial_there given n f p r h e = e ∙ rw (h.0, ← h.1.1) (by p.slope.span) where
  by : (o : Option Interval) → ok_or o (Arith Overflow) ≡ in_range o
  by None = refl
  by (Some s) = refl
