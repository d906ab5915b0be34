-- The span of a formula encloses its value, which is defined.
use Rattle.std.specs.Prelude.{◌≡◌, ℕ, zero, suc, ℤ, pos, negsuc, Bool, true, false, List, [], ◌∷◌, Option, None, Some, Result, Ok, Err, IfOk, refl}
use Rattle.std.proofs.Common.{sym, subst, arith}
use Rattle.exact_fraction.specs.Number.{ℚ, of_ℤ, inv_ℚ}
use Rattle.exact_fraction.proofs.PowerLaws.{base_not_zero}
use Rattle.exact_fraction.proofs.Ring.{ring, Whole, ◌:*◌, x0}
use Rattle.exact_fraction.specs.Powers.{power, whole_power}
use Rattle.exact_law.specs.Model.{value, is_defined, has_power}
use Rattle.fixed_interval.specs.Interval.{Interval, Encloses, point_span, sum_span}
use Rattle.fixed_interval.specs.Rules.{one_bound, difference_span, product_span, quotient, holds_zero}
use Rattle.fixed_interval.specs.Powers.{power_span, as_answer, inverted, power as span_power}
use Rattle.fixed_interval.specs.declared.faults.ArithFault.{ArithFault}
use Rattle.fixed_interval.proofs.Enclosures.{point_encloses, one_encloses, sum_span_encloses}
use Rattle.fixed_interval.proofs.Inclusions.{difference_span_encloses, product_span_encloses, quotient_encloses, quotient_by_zero, not_zero}
use Rattle.fixed_interval.proofs.Negatives.{negative_span_encloses}
use Rattle.fixed_interval.proofs.Halving.{power_span_encloses}
use Rattle.formula_ast.specs.Trees.{Tree, Number, Variable, Opposite, Joined, Raised, IsExponent, HasExponents}
use Rattle.formula_ast.specs.declared.token.Sign.{Sign}
use Rattle.formula_ast.specs.declared.token.Sign.TheVariants.{Plus, Minus, Times, Over}
use Rattle.formula_box.specs.Values.{Answer, then_with, in_range, arithmetic, used, use_after, joined_span, span_from, span_of}
use Rattle.formula_box.specs.Exact.{expression_of, AreEnclosed, HasValueWithin}

-- ---- what holds of the span of an answer
pub in_range_holds : (o : Option Interval) (P : Interval → Type 0) → ((s : Interval) → o ≡ Some s → P s) → IfOk (in_range o) P
in_range_holds None P h = tt
in_range_holds (Some s) P h = h s refl

pub arithmetic_holds : (r : Result Interval ArithFault) (P : Interval → Type 0) → ((s : Interval) → r ≡ Ok s → P s) → IfOk (arithmetic r) P
arithmetic_holds (Err fault) P h = tt
arithmetic_holds (Ok s) P h = h s refl

pub then_holds : (r : Answer) (next : Interval → Answer) (P Q : Interval → Type 0) → IfOk r P
    → ((s : Interval) → P s → IfOk (next s) Q) → IfOk (then_with r next) Q
then_holds (Err fault) next P Q h k = tt
then_holds (Ok s) next P Q h k = k s h

pub some_of_answer : (o : Option Interval) (s : Interval) → as_answer o ≡ Ok s → o ≡ Some s
some_of_answer None s e = cc
some_of_answer (Some t) s e = cc

pub divisor_not_zero : (a b s : Interval) → quotient a b ≡ Ok s → holds_zero b ≡ false
divisor_not_zero a b s e = by (holds_zero b) refl where
  by : (t : Bool) → holds_zero b ≡ t → t ≡ false
  by true f = absurd (cc (quotient_by_zero a b f, e))
  by false f = refl

inverse_encloses : (s t : Interval) (y : ℚ) → quotient (point_span one_bound) s ≡ Ok t → Encloses s y → Encloses t (inv_ℚ y)
inverse_encloses s t y e h =
    subst (Encloses t) (ring (inv_ℚ y ∷ []) (Whole (pos 1) :* x0) x0 refl)
    (quotient_encloses (point_span one_bound) s (Ok t) (sym e) (of_ℤ (pos 1)) y one_encloses h)

-- ---- operations
joined_holds : (v : List ℕ → ℚ) (known : List ℕ → Bool) (s : Sign) (a b : Tree) (x y : Interval)
    → HasValueWithin v known a x → HasValueWithin v known b y → IfOk (joined_span s x y) (HasValueWithin v known (Joined s a b))
unfolding value is_defined
joined_holds v known Plus a b x y h k =
    in_range_holds (sum_span x y) _
    (λ t e. record { defined = rw (h.defined, k.defined) refl; enclosed = sum_span_encloses x y t e _ _ h.enclosed k.enclosed })
joined_holds v known Minus a b x y h k =
    in_range_holds (difference_span x y) _
    (λ t e. record { defined = rw (h.defined, k.defined) refl; enclosed = difference_span_encloses x y t e _ _ h.enclosed k.enclosed })
joined_holds v known Times a b x y h k =
    in_range_holds (product_span x y) _
    (λ t e. record { defined = rw (h.defined, k.defined) refl; enclosed = product_span_encloses x y t e _ _ h.enclosed k.enclosed })
joined_holds v known Over a b x y h k =
    arithmetic_holds (quotient x y) _
    (λ t e. record {
      defined = rw (h.defined, k.defined, not_zero y (divisor_not_zero x y t e) _ k.enclosed) refl;
      enclosed = quotient_encloses x y (Ok t) (sym e) _ _ h.enclosed k.enclosed;
    })

negative_power_holds : (v : List ℕ → ℚ) (known : List ℕ → Bool) (n : ℕ) (a : Tree) (x : Interval) → HasValueWithin v known a x
    → (o : Option Interval) → power_span x (suc n) ≡ o → (t : Interval) → inverted o ≡ Ok t
    → HasValueWithin v known (Raised a (negsuc n)) t
unfolding value is_defined has_power whole_power
negative_power_holds v known n a x h None f t e = cc
negative_power_holds v known n a x h (Some s) f t e =
    let q : ℚ = value v (expression_of a) in
    let inner : Encloses s (power q (suc n)) = power_span_encloses x q h.enclosed (suc n) (omega arith) s f in
    record {
      defined = rw (h.defined, base_not_zero q n (not_zero s (divisor_not_zero _ s t e) _ inner)) refl;
      enclosed = inverse_encloses s t _ e inner;
    }

power_holds : (v : List ℕ → ℚ) (known : List ℕ → Bool) (k : ℤ) → IsExponent k → (a : Tree) (x : Interval)
    → HasValueWithin v known a x → IfOk (arithmetic (span_power x k)) (HasValueWithin v known (Raised a k))
unfolding value is_defined has_power whole_power
power_holds v known (pos zero) i a x h = absurd (i.nonzero refl)
power_holds v known (pos (suc n)) i a x h =
    arithmetic_holds (as_answer (power_span x (suc n))) _
    (λ t e. record {
      defined = rw h.defined refl;
      enclosed = power_span_encloses x _ h.enclosed (suc n) (omega arith) t (some_of_answer _ t e);
    })
power_holds v known (negsuc n) i a x h =
    arithmetic_holds (inverted (power_span x (suc n))) _ (λ t e. negative_power_holds v known n a x h (power_span x (suc n)) refl t e)

-- ---- formulas
use_holds : (given : List ℕ → Option Interval) (v : List ℕ → ℚ) (known : List ℕ → Bool) → AreEnclosed given v known
    → (k : ℕ) (n : List ℕ) (o : Option Interval) → given n ≡ o → IfOk (used k o) (HasValueWithin v known (Variable n))
unfolding value is_defined
use_holds given v known all k n None e = tt
use_holds given v known all k n (Some s) e = record { defined = all.defined n s e; enclosed = all.enclosed n s e }

pub from_holds : (given : List ℕ → Option Interval) (v : List ℕ → ℚ) (known : List ℕ → Bool) → AreEnclosed given v known
    → (k : ℕ) (f : Tree) → HasExponents f → IfOk (span_from given k f) (HasValueWithin v known f)
unfolding value is_defined
from_holds given v known all k (Number q) h = record { defined = refl; enclosed = point_encloses q }
from_holds given v known all k (Variable n) h = use_holds given v known all k n (given n) refl
from_holds given v known all k (Opposite a) h =
    then_holds (span_from given k a) _ (HasValueWithin v known a) _ (from_holds given v known all k a h)
    (λ s w. record { defined = w.defined; enclosed = negative_span_encloses s _ w.enclosed })
from_holds given v known all k (Joined s a b) h =
    then_holds (span_from given k a) _ (HasValueWithin v known a) _ (from_holds given v known all k a h.0)
    (λ x w. then_holds (span_from given (use_after k a) b) _ (HasValueWithin v known b) _ (from_holds given v known all (use_after k a) b h.1)
    (λ y u. joined_holds v known s a b x y w u))
from_holds given v known all k (Raised a e) h =
    then_holds (span_from given k a) _ (HasValueWithin v known a) _ (from_holds given v known all k a h.0)
    (λ x w. power_holds v known e h.1 a x w)

pub formula_encloses : (given : List ℕ → Option Interval) (v : List ℕ → ℚ) (known : List ℕ → Bool) → AreEnclosed given v known
    → (f : Tree) → HasExponents f → (s : Interval) → span_of given f ≡ Ok s → HasValueWithin v known f s
unfolding span_of
formula_encloses given v known all f h s e = rw e at (from_holds given v known all 0 f h)
