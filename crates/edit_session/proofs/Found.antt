-- What holds along a chain of what is found.
use Rattle.std.specs.Prelude.{◌≡◌, Option, Some, None, Result, Ok, Err, IfOk, refl}
use Rattle.std.specs.Option.{ok_or}
use Rattle.std.specs.Result.{IsErrAnd}
use Rattle.std.proofs.Common.{sym, ◌∙◌, ap, subst}
use Rattle.fixed_interval.specs.declared.faults.Overflow.{Overflow}
use Rattle.edit_session.specs.Replies.{Unknown, Faulted, OutOfRange, Found, and_then, in_range}
use Rattle.edit_session.specs.Asking.{StopsAt, Finds}
use Rattle.edit_session.specs.declared.stop.Stop.{Stop as CodeStop}
use Rattle.edit_session.specs.declared.stop.Stop.TheVariants.{Value as CodeFault, Law as CodeOverflow, OutOfMemory as NoMemory}

-- ---- what holds of all that is found
pub if_then : {A B : Type 0} (found : Found A) (next : A → Found B) (P : B → Type 0) → ((x : A) → found ≡ Ok x → IfOk (next x) P) → IfOk (and_then found next) P
if_then (Ok x) next P h = h x refl
if_then (Err stop) next P h = tt

pub if_in_range : {A : Type 0} (r : Result A Overflow) (P : A → Type 0) → ((x : A) → r ≡ Ok x → P x) → IfOk (in_range r) P
if_in_range (Ok x) P h = h x refl
if_in_range (Err fault) P h = tt

pub if_some : {A : Type 0} (o : Option A) (fault : Overflow) (P : A → Type 0) → ((x : A) → o ≡ Some x → P x) → IfOk (in_range (ok_or o fault)) P
if_some None fault P h = tt
if_some (Some x) fault P h = h x refl

pub of_ok : {A : Type 0} (found : Found A) (P : A → Type 0) → IfOk found P → (x : A) → found ≡ Ok x → P x
of_ok found P h x e = subst (λ f. IfOk f P) e h

-- ---- the name of each quantity that is asked is known
abbrev pub IsKnown : {A : Type 0} → Found A → Type 0
IsKnown (Ok x) = Unit {0}
IsKnown (Err (Unknown name)) = ⊥
IsKnown (Err (Faulted fault row)) = Unit {0}
IsKnown (Err OutOfRange) = Unit {0}

pub known_then : {A B : Type 0} (found : Found A) (next : A → Found B) → IsKnown found → ((x : A) → IsKnown (next x)) → IsKnown (and_then found next)
known_then (Ok x) next h k = k x
known_then (Err (Unknown name)) next h k = h
known_then (Err (Faulted fault row)) next h k = tt
known_then (Err OutOfRange) next h k = tt

pub known_range : {A : Type 0} (r : Result A Overflow) → IsKnown (in_range r)
known_range (Ok x) = tt
known_range (Err fault) = tt

-- ---- what the code finds
pub stops_then : {A B : Type 0} (stop : CodeStop) (found : Found A) (next : A → Found B) → StopsAt stop found → StopsAt stop (and_then found next)
stops_then (CodeFault fault row) found next h = ap (λ f. and_then f next) h
stops_then CodeOverflow found next h = ap (λ f. and_then f next) h
stops_then NoMemory found next h = tt

-- goes on from what is found
pub stops_on : {A B : Type 0} (stop : CodeStop) (found : Found A) (x : A) (next : A → Found B) → found ≡ Ok x → StopsAt stop (next x)
    → StopsAt stop (and_then found next)
stops_on stop found x next e h = subst (λ f. StopsAt stop (and_then f next)) (sym e) h

pub finds_on : {A B : Type 0} (r : Result B CodeStop) (found : Found A) (x : A) (next : A → Found B) → found ≡ Ok x → Finds r (next x)
    → Finds r (and_then found next)
finds_on r found x next e h = subst (λ f. Finds r (and_then f next)) (sym e) h

pub ok_on : {A B : Type 0} (found : Found A) (x : A) (next : A → Found B) (y : B) → found ≡ Ok x → next x ≡ Ok y → and_then found next ≡ Ok y
ok_on found x next y e f = ap (λ r. and_then r next) e ∙ f

-- ---- what overflows
-- a call that answers an overflow stops where one stands in the place of what is found
pub stops_out : {A : Type 0} (r : Result A CodeStop) → IsErrAnd r (λ stop. stop ≡ CodeOverflow) → (found : Found A) → found ≡ Err OutOfRange → Finds r found
stops_out (Ok x) h found e = absurd h
stops_out (Err stop) h found e = subst (λ s. StopsAt s found) (sym h) e

-- without memory nothing is said
pub stops_empty : {A : Type 0} (r : Result A CodeStop) → IsErrAnd r (λ stop. stop ≡ NoMemory) → (found : Found A) → Finds r found
stops_empty (Ok x) h found = absurd h
stops_empty (Err stop) h found = subst (λ s. StopsAt s found) (sym h) tt

pub overflows : {A : Type 0} (x e f : Overflow) (o p : Option A) → Err x ≡ ok_or o e → o ≡ p → in_range (ok_or p f) ≡ Err OutOfRange
overflows x e f None p h k = ap (λ o. in_range (ok_or o f)) (sym k)
overflows x e f (Some y) p h k = absurd (cc)

pub stays_in_range : {A : Type 0} (y : A) (e f : Overflow) (o p : Option A) → Ok y ≡ ok_or o e → o ≡ p → in_range (ok_or p f) ≡ Ok y
stays_in_range y e f None p h k = absurd (cc)
stays_in_range y e f (Some z) p h k =
    let same : z ≡ y = cc in
    ap (λ o. in_range (ok_or o f)) (sym k) ∙ ap Ok same

-- a call that hands on what stands in the place of what is found stops there
pub stops_with : {A B : Type 0} (r : Result B CodeStop) (stop : CodeStop) → IsErrAnd r (λ s. s ≡ stop) → (found : Found A) (next : A → Found B)
    → StopsAt stop found → Finds r (and_then found next)
stops_with (Ok x) stop h found next k = absurd h
stops_with (Err s) stop h found next k = subst (λ s. StopsAt s (and_then found next)) (sym h) (stops_then stop found next k)

-- and one that answers an overflow, where an overflow is found
pub stops_past : {A B : Type 0} (r : Result B CodeStop) → IsErrAnd r (λ stop. stop ≡ CodeOverflow) → (found : Found A) (next : A → Found B)
    → found ≡ Err OutOfRange → Finds r (and_then found next)
stops_past r h found next e = stops_out r h (and_then found next) (ap (λ f. and_then f next) e)
