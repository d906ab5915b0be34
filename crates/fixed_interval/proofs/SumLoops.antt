-- Sums that loops find some terms at a time.
use Rattle.std.specs.Prelude.{◌≡◌, List, [], ◌∷◌, ◌++◌, Bool, true, false, Option, None, Some, Result, Ok, Err, is_err, refl}
use Rattle.std.specs.Option.{ok_or, unwrap_or}
use Rattle.std.proofs.Common.{sym, ◌∙◌, ap, subst}
use Rattle.std.proofs.lemmas.List.{append_assoc, append-nil}
use Rattle.fixed_interval.specs.Interval.{Interval}
use Rattle.fixed_interval.specs.Sums.{sum_on, sum_of, sum_after, zero_span, Continues, term_if}
use Rattle.fixed_interval.specs.declared.faults.Overflow.{Overflow}
use Rattle.fixed_interval.proofs.Sums.{sum_on-none, after_first, missing, there}

-- ---- one term more
pub more_missing : (sum : Option Interval) (t : Interval) (x e y : Overflow) → Err x ≡ ok_or (sum_after sum (Some t ∷ [])) e → Continues sum (Some t ∷ []) (Err y)
more_missing sum t x e y h more =
    after_first sum (Some t) more ∙ ap (λ o. sum_on o more) (missing (sum_after sum (Some t ∷ [])) x e h) ∙ sum_on-none more

pub more_there : (sum : Option Interval) (t next : Interval) (e : Overflow) → Ok next ≡ ok_or (sum_after sum (Some t ∷ [])) e → Continues sum (Some t ∷ []) (Ok (Some next))
more_there sum t next e h more =
    sym (after_first sum (Some t) more ∙ ap (λ o. sum_on o more) (there (sum_after sum (Some t ∷ [])) next e h))

-- a term that has left the range leaves no sum
pub one_missing : (sum o : Option Interval) (x e y : Overflow) → Err x ≡ ok_or o e → Continues sum (o ∷ []) (Err y)
one_missing sum o x e y h more =
    ap (λ t. sum_after sum (t ∷ more)) (missing o x e h) ∙ after_first sum None more ∙ gone sum ∙ sum_on-none more where
      gone : (s : Option Interval) → sum_on (sum_after s (None ∷ [])) more ≡ sum_on None more
      gone None = refl
      gone (Some s) = refl

pub one_there : (sum o : Option Interval) (t : Interval) (e : Overflow) (r : Result (Option Interval) Overflow) → Ok t ≡ ok_or o e → Continues sum (Some t ∷ []) r
    → Continues sum (o ∷ []) r
one_there sum o t e r h k = subst (λ p. Continues sum (p ∷ []) r) (sym (there o t e h)) k

-- ---- a loop: the terms that are left come, after the sum so far, to what all do after the first sum
abbrev pub Leaves : Option Interval → List (Option Interval) → Option Interval → List (Option Interval) → Type 0
Leaves sum left first all = (more : List (Option Interval)) → sum_after sum (left ++ more) ≡ sum_after first (all ++ more)

pub step_there : (sum next first : Option Interval) (now ts rest all : List (Option Interval)) → now ≡ ts ++ rest → Leaves sum now first all
    → Continues sum ts (Ok next) → Leaves next rest first all
step_there sum next first now ts rest all e h k more =
    k (rest ++ more) ∙ ap (sum_after sum) (sym (append_assoc ts rest more)) ∙ ap (λ xs. sum_after sum (xs ++ more)) (sym e) ∙ h more

pub step_missing : (sum first : Option Interval) (now ts rest all : List (Option Interval)) (x y : Overflow) → now ≡ ts ++ rest → Leaves sum now first all
    → Continues sum ts (Err x) → Continues first all (Err y)
step_missing sum first now ts rest all x y e h k more =
    sym (h more) ∙ ap (λ xs. sum_after sum (xs ++ more)) e ∙ ap (sum_after sum) (append_assoc ts rest more) ∙ k (rest ++ more)

pub at_end : (sum first : Option Interval) (left all : List (Option Interval)) → left ≡ [] → Leaves sum left first all → Continues first all (Ok sum)
at_end sum first left all e h more = ap (λ xs. sum_after sum (xs ++ more)) (sym e) ∙ h more

pub whole_missing : (all : List (Option Interval)) (x : Overflow) → Continues None all (Err x) → sum_of all ≡ None
whole_missing all x k = ap sum_of (sym (append-nil all)) ∙ k []

pub whole_there : (all : List (Option Interval)) (sum : Option Interval) → Continues None all (Ok sum) → sum_of all ≡ Some (unwrap_or sum zero_span)
whole_there all None k = ap sum_of (sym (append-nil all)) ∙ sym (k [])
whole_there all (Some s) k = ap sum_of (sym (append-nil all)) ∙ sym (k [])

-- ---- answers: those that a `?` hands on, of which only is known that they are errors
pub refused : (r : Result (Option Interval) Overflow) → is_err r ≡ true → (first : Option Interval) (all : List (Option Interval))
    → Continues first all (Err (record {})) → Continues first all r
refused (Ok s) e first all k = absurd (cc)
refused (Err y) e first all k = k

pub refused_more : (r : Result (Option Interval) Overflow) → is_err r ≡ true → (sum : Option Interval) (t : Interval) (x e : Overflow)
    → Err x ≡ ok_or (sum_after sum (Some t ∷ [])) e → Continues sum (Some t ∷ []) r
refused_more r i sum t x e h = refused r i sum (Some t ∷ []) (more_missing sum t x e (record {}) h)

pub refused_one : (r : Result (Option Interval) Overflow) → is_err r ≡ true → (sum o : Option Interval) (x e : Overflow) → Err x ≡ ok_or o e → Continues sum (o ∷ []) r
refused_one r i sum o x e h = refused r i sum (o ∷ []) (one_missing sum o x e (record {}) h)

pub refused_step : (r : Result (Option Interval) Overflow) → is_err r ≡ true → (sum first : Option Interval) (now ts rest all : List (Option Interval))
    → now ≡ ts ++ rest → Leaves sum now first all → Continues sum ts (Err (record {})) → Continues first all r
refused_step r i sum first now ts rest all e h k = refused r i first all (step_missing sum first now ts rest all (record {}) (record {}) e h k)

pub refused_answer : (r : Result Interval Overflow) → is_err r ≡ true → (o : Option Interval) → o ≡ None → r ≡ ok_or o (record {})
refused_answer (Ok s) e o k = absurd (cc)
refused_answer (Err y) e o k = rw k refl

-- the sum of all
pub refused_sum : (r : Result Interval Overflow) → is_err r ≡ true → (sum : Option Interval) (now ts rest all : List (Option Interval))
    → now ≡ ts ++ rest → Leaves sum now None all → Continues sum ts (Err (record {})) → r ≡ ok_or (sum_of all) (record {})
refused_sum r i sum now ts rest all e h k =
    refused_answer r i (sum_of all) (whole_missing all (record {}) (step_missing sum None now ts rest all (record {}) (record {}) e h k))

pub sum_there : (sum : Option Interval) (s : Interval) (left all : List (Option Interval)) → left ≡ [] → Leaves sum left None all → s ≡ unwrap_or sum zero_span
    → ◌≡◌ {A = Result Interval Overflow} (Ok s) (ok_or (sum_of all) (record {}))
sum_there sum s left all e h k =
    let w : sum_of all ≡ Some (unwrap_or sum zero_span) = whole_there all sum (at_end sum None left all e h) in
    rw (w, k) refl

-- ---- one term where it counts
pub refused_part : (r : Result (Option Interval) Overflow) → is_err r ≡ true → (sum o : Option Interval) (x e : Overflow) → Err x ≡ ok_or o e
    → (counts : Bool) → counts ≡ true → Continues sum (term_if counts o) r
refused_part r i sum o x e h counts k = subst (λ b. Continues sum (term_if b o) r) (sym k) (refused_one r i sum o x e h)

pub part_there : (r : Result (Option Interval) Overflow) (sum o : Option Interval) (t : Interval) (e : Overflow) → Ok t ≡ ok_or o e → Continues sum (Some t ∷ []) r
    → (counts : Bool) → counts ≡ true → Continues sum (term_if counts o) r
part_there r sum o t e h k counts c = subst (λ b. Continues sum (term_if b o) r) (sym c) (one_there sum o t e r h k)

pub term_left : (sum o : Option Interval) (counts : Bool) → counts ≡ false → Continues sum (term_if counts o) (Ok sum)
term_left sum o counts c = subst (λ b. Continues sum (term_if b o) (Ok sum)) (sym c) (λ more. refl)
