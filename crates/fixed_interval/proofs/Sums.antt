-- What operations on spans that may have left the range enclose, and sums of such spans, some terms at a time.
use Rattle.std.specs.Prelude.{◌≡◌, List, [], ◌∷◌, ◌++◌, map, Option, None, Some, Result, Ok, Err, pos, refl}
use Rattle.std.specs.Option.{ok_or}
use Rattle.std.proofs.Common.{sym, ◌∙◌, ap, subst}
use Rattle.exact_fraction.specs.Number.{ℚ, ◌+ℚ◌, ◌*ℚ◌, neg_ℚ}
use Rattle.exact_fraction.specs.Sums.{total}
use Rattle.exact_fraction.proofs.Ring.{ring, Whole, ◌:+◌, x0, x1, x2}
use Rattle.decimal18.specs.Down.{IsInRange}
use Rattle.fixed_interval.specs.Interval.{Interval, Encloses, outward, sum_span}
use Rattle.fixed_interval.specs.Rules.{difference_span, product_span}
use Rattle.fixed_interval.specs.Sums.{both, sum_on, sum_of, sum_after, Holds, AllHold}
use Rattle.fixed_interval.specs.declared.faults.Overflow.{Overflow}
use Rattle.fixed_interval.proofs.Enclosures.{zero_encloses, sum_span_encloses, no_span}
use Rattle.fixed_interval.proofs.Inclusions.{product_span_encloses, difference_span_encloses}

-- ---- operations
pub some_holds : (o : Option Interval) (q : ℚ) → ((s : Interval) → o ≡ Some s → Encloses s q) → Holds o q
some_holds None q h = tt
some_holds (Some s) q h = h s refl

pub both_holds : (o p : Option Interval) (f : Interval → Interval → Option Interval) (x y z : ℚ) → Holds o x → Holds p y
    → ((a b s : Interval) → f a b ≡ Some s → Encloses a x → Encloses b y → Encloses s z) → Holds (both o p f) z
both_holds None p f x y z h k rule = tt
both_holds (Some a) None f x y z h k rule = tt
both_holds (Some a) (Some b) f x y z h k rule = some_holds (f a b) z (λ s e. rule a b s e h k)

pub sum_holds : (o p : Option Interval) (x y : ℚ) → Holds o x → Holds p y → Holds (both o p sum_span) (x +ℚ y)
sum_holds o p x y h k = both_holds o p sum_span x y _ h k (λ a b s e i j. sum_span_encloses a b s e x y i j)

pub difference_holds : (o p : Option Interval) (x y : ℚ) → Holds o x → Holds p y → Holds (both o p difference_span) (x +ℚ neg_ℚ y)
difference_holds o p x y h k = both_holds o p difference_span x y _ h k (λ a b s e i j. difference_span_encloses a b s e x y i j)

pub product_holds : (o p : Option Interval) (x y : ℚ) → Holds o x → Holds p y → Holds (both o p product_span) (x *ℚ y)
product_holds o p x y h k = both_holds o p product_span x y _ h k (λ a b s e i j. product_span_encloses a b s e x y i j)

-- ---- sums
pub sum_on_holds : (os : List (Option Interval)) (qs : List ℚ) → AllHold os qs → (s : Option Interval) (x : ℚ) → Holds s x
    → Holds (sum_on s os) (x +ℚ total (λ q. q) qs)
unfolding total
sum_on_holds [] [] h s x k = subst (Holds s) (ring (x ∷ []) x0 (x0 :+ Whole (pos 0)) refl) k
sum_on_holds [] (q ∷ qs) h s x k = absurd h
sum_on_holds (o ∷ os) [] h s x k = absurd h
sum_on_holds (o ∷ os) (q ∷ qs) h s x k =
    subst (Holds (sum_on (both s o sum_span) os)) (ring (x ∷ q ∷ total (λ q. q) qs ∷ []) ((x0 :+ x1) :+ x2) (x0 :+ (x1 :+ x2)) refl)
    (sum_on_holds os qs h.1 (both s o sum_span) (x +ℚ q) (sum_holds s o x q k h.0))

pub sum_of_holds : (os : List (Option Interval)) (qs : List ℚ) → AllHold os qs → Holds (sum_of os) (total (λ q. q) qs)
unfolding total
sum_of_holds [] [] h = zero_encloses
sum_of_holds [] (q ∷ qs) h = absurd h
sum_of_holds (o ∷ os) [] h = absurd h
sum_of_holds (o ∷ os) (q ∷ qs) h = sum_on_holds os qs h.1 o q h.0

pub all_append : (os ps : List (Option Interval)) (qs rs : List ℚ) → AllHold os qs → AllHold ps rs → AllHold (os ++ ps) (qs ++ rs)
all_append [] ps [] rs h k = k
all_append [] ps (q ∷ qs) rs h k = absurd h
all_append (o ∷ os) ps [] rs h k = absurd h
all_append (o ∷ os) ps (q ∷ qs) rs h k = (h.0, all_append os ps qs rs h.1 k)

pub all_map : {X : Type 0} (f : X → Option Interval) (g : X → ℚ) (xs : List X) → ((x : X) → Holds (f x) (g x)) → AllHold (map f xs) (map g xs)
all_map f g [] h = tt
all_map f g (x ∷ xs) h = (h x, all_map f g xs h)

pub sum_encloses : (os : List (Option Interval)) (qs : List ℚ) → AllHold os qs → (s : Interval) → sum_of os ≡ Some s → Encloses s (total (λ q. q) qs)
sum_encloses os qs h s e = rw e at (sum_of_holds os qs h)

-- ---- some terms at a time, as a loop takes them
pub sum_on-none : (ts : List (Option Interval)) → sum_on None ts ≡ None
sum_on-none [] = refl
sum_on-none (t ∷ ts) = sum_on-none ts

pub sum_on-append : (s : Option Interval) (ts us : List (Option Interval)) → sum_on s (ts ++ us) ≡ sum_on (sum_on s ts) us
sum_on-append s [] us = refl
sum_on-append s (t ∷ ts) us = sum_on-append (both s t sum_span) ts us

-- the sum of terms of which the first ones have the sum s goes on from s
pub sum_of-append : (t : Option Interval) (ts us : List (Option Interval)) (s : Interval) → sum_of (t ∷ ts) ≡ Some s
    → sum_of ((t ∷ ts) ++ us) ≡ sum_after (Some s) us
sum_of-append t ts us s e = sum_on-append t ts us ∙ ap (λ o. sum_on o us) e

pub after_first : (sum t : Option Interval) (ts : List (Option Interval)) → sum_after sum (t ∷ ts) ≡ sum_on (sum_after sum (t ∷ [])) ts
after_first None t ts = refl
after_first (Some s) t ts = refl

-- ---- answers
pub missing : (o : Option Interval) (x e : Overflow) → Err x ≡ ok_or o e → o ≡ None
missing None x e h = refl
missing (Some s) x e h = absurd (cc)

-- the span of one number in range is there
pub never_fails : (x y : ℚ) (r : Result Interval Overflow) (e f : Overflow) → r ≡ ok_or (outward x x) e → r ≡ Err f → x ≡ y → IsInRange y → ⊥
never_fails x y r e f h g s range =
    let x_in : IsInRange x = subst IsInRange (sym s) range in
    no_span x x (missing (outward x x) f e (sym g ∙ h)) x_in x_in

pub there : (o : Option Interval) (s : Interval) (e : Overflow) → Ok s ≡ ok_or o e → o ≡ Some s
there None s e h = absurd (cc)
there (Some t) s e h = cc
