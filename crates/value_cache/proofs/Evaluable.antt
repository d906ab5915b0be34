-- Quantities that were added one by one, and what one more does to the evaluations.
use Rattle.std.specs.Prelude.{◌≡◌, ℕ, zero, suc, ◌≤◌, Bool, true, false, if◌then◌else◌, List, [], ◌∷◌, ◌++◌, length, is_some, IsSome, Option, Some, None, refl}
use Rattle.std.specs.Option.{option_or, option_map}
use Rattle.std.proofs.Common.{sym, ◌∙◌, ap, subst, arith}
use Rattle.std.proofs.lemmas.Bool.{true≢false}
use Rattle.std.proofs.lemmas.Option.{none-some, same_Some}
use mathlib.Core.Path.{fun_ext}
use Rattle.exact_law.specs.Model.{IsSameTest}
use Rattle.value_cache.specs.Quantities.{Body, Input, Function, Column, Quantity, IsColumn, body_of, is_there}
use Rattle.fixed_interval.proofs.Enclosures.{outward_there}
use Rattle.type_a.specs.Tables.{Table}
use Rattle.type_a.specs.Statistics.{exact_mean, mean_span}
use Rattle.type_a.proofs.InRange.{mean_in_range}
use Rattle.value_cache.specs.Evaluations.{Found, evaluation_of_body, evaluation_through, evaluation_of}
use Rattle.value_cache.specs.Evaluable.{UsesOnly, IsEvaluable}
use Rattle.value_cache.specs.declared.evaluation.Evaluation.TheVariants.{Enclosed}
use Rattle.value_cache.proofs.Names.{AllNames-map, keys_known, none_key_unknown}
use Rattle.value_cache.proofs.Faults.{evaluation_same, is_evaluated}

-- ---- the bodies with one quantity more
body_of-added : {K : Type 0} (same : K → K → Bool) (qs : List (Quantity K)) (q : Quantity K) (n : K)
    → body_of same (qs ++ q ∷ []) n ≡ option_or (body_of same qs n) (if same q.key n then Some q.body else None)
body_of-added same [] q n = refl
body_of-added same (first ∷ qs) q n = by (same first.key n) (body_of-added same qs q n) where
  by : (hit : Bool)
      → body_of same (qs ++ q ∷ []) n ≡ option_or (body_of same qs n) (if same q.key n then Some q.body else None)
      → (if hit then Some first.body else body_of same (qs ++ q ∷ []) n)
      ≡ option_or (if hit then Some first.body else body_of same qs n) (if same q.key n then Some q.body else None)
  by true rest = refl
  by false rest = rest

is_some-option_or : {A : Type 0} (a : Option A) (b : A) (test : Bool)
    → is_some (option_or a (if test then Some b else None)) ≡ (if is_some a then true else test)
is_some-option_or None b true = refl
is_some-option_or None b false = refl
is_some-option_or (Some a) b test = refl

pub is_there-added : {K : Type 0} (same : K → K → Bool) (qs : List (Quantity K)) (q : Quantity K) (n : K)
    → is_there same (qs ++ q ∷ []) n ≡ (if is_there same qs n then true else same q.key n)
is_there-added same qs q n =
    ap is_some (body_of-added same qs q n) ∙ is_some-option_or (body_of same qs n) q.body (same q.key n)

option_or-none : {A : Type 0} (o : Option A) → option_or o None ≡ o
option_or-none None = refl
option_or-none (Some body) = refl

none_from_false : {A : Type 0} (o : Option A) → is_some o ≡ false → o ≡ None
none_from_false None e = refl
none_from_false (Some body) e = absurd (true≢false e)

body_of-added_other : {K : Type 0} (same : K → K → Bool) (qs : List (Quantity K)) (q : Quantity K) (n : K) → same q.key n ≡ false
    → body_of same (qs ++ q ∷ []) n ≡ body_of same qs n
body_of-added_other same qs q n e =
    body_of-added same qs q n ∙ ap (λ t. option_or (body_of same qs n) (if t then Some q.body else None)) e
    ∙ option_or-none (body_of same qs n)

body_of-added_new : {K : Type 0} (same : K → K → Bool) (qs : List (Quantity K)) (q : Quantity K) (n : K)
    → is_there same qs q.key ≡ false → q.key ≡ n → same q.key n ≡ true → body_of same (qs ++ q ∷ []) n ≡ Some q.body
body_of-added_new same qs q n fresh is e =
    let absent : body_of same qs n ≡ None = none_from_false _ (ap (is_there same qs) (sym is) ∙ fresh) in
    body_of-added same qs q n ∙ ap (λ t. option_or (body_of same qs n) (if t then Some q.body else None)) e
    ∙ ap (λ o. option_or o (Some q.body)) absent

-- the key of a quantity that is there is not the new one
other_key : {K : Type 0} (same : K → K → Bool) → IsSameTest same → (qs : List (Quantity K)) (q : Quantity K)
    → is_there same qs q.key ≡ false → (n : K) → is_there same qs n ≡ true → same q.key n ≡ false
other_key same law qs q fresh n h = by (same q.key n) refl where
  by : (hit : Bool) → same q.key n ≡ hit → hit ≡ false
  by true e = absurd (true≢false (sym h ∙ ap (is_there same qs) (sym (law.sound q.key n e)) ∙ fresh))
  by false e = refl

is_there-kept : {K : Type 0} (same : K → K → Bool) (qs : List (Quantity K)) (q : Quantity K) (n : K)
    → is_there same qs n ≡ true → is_there same (qs ++ q ∷ []) n ≡ true
is_there-kept same qs q n h = is_there-added same qs q n ∙ ap (λ t. if t then true else same q.key n) h

UsesOnly-kept : {K : Type 0} (same : K → K → Bool) (qs : List (Quantity K)) (q : Quantity K) (body : Body K)
    → UsesOnly same qs body → UsesOnly same (qs ++ q ∷ []) body
UsesOnly-kept same qs q (Input estimate) h = record { known = refl; column = tt }
UsesOnly-kept same qs q (Column t column) h = record { known = refl; column = h.column }
UsesOnly-kept same qs q (Function f key) h = record {
  known =
      none_key_unknown (is_there same (qs ++ q ∷ [])) key f
      (AllNames-map (λ n. is_there same qs (key n) ≡ true) (λ n. is_there same (qs ++ q ∷ []) (key n) ≡ true)
      (λ n. is_there-kept same qs q (key n)) f (keys_known (is_there same qs) key f h.known));
  column = tt;
}

-- ---- the evaluations with one quantity more
body_same : {K : Type 0} (same : K → K → Bool) (qs : List (Quantity K)) (found others : Found K)
    → ((n : K) → is_there same qs n ≡ true → found n ≡ others n) → (row : K) (body : Body K) → UsesOnly same qs body
    → evaluation_of_body found row (Some body) ≡ evaluation_of_body others row (Some body)
body_same same qs found others agree row (Input estimate) uses = refl
body_same same qs found others agree row (Column t column) uses = refl
body_same same qs found others agree row (Function f key) uses =
    evaluation_same (λ n. found (key n)) (λ n. others (key n)) row f
    (AllNames-map (λ n. is_there same qs (key n) ≡ true) (λ n. found (key n) ≡ others (key n)) (λ n. agree (key n)) f
    (keys_known (is_there same qs) key f uses.known))

-- a key other than the new one keeps its evaluation
through_same : {K : Type 0} (same : K → K → Bool) → IsSameTest same → (qs : List (Quantity K)) (q : Quantity K) → IsEvaluable same qs
    → is_there same qs q.key ≡ false → (k : ℕ) (n : K) → same q.key n ≡ false
    → evaluation_through same (qs ++ q ∷ []) k n ≡ evaluation_through same qs k n
through_same same law qs q evaluable fresh zero n other = refl
through_same same law qs q evaluable fresh (suc k) n other =
    ap (evaluation_of_body (evaluation_through same (qs ++ q ∷ []) k) n) (body_of-added_other same qs q n other)
    ∙ by (body_of same qs n) refl (λ m known. through_same same law qs q evaluable fresh k m (other_key same law qs q fresh m known)) where
      by : (body : Option (Body _)) → body_of same qs n ≡ body
          → ((m : _) → is_there same qs m ≡ true → evaluation_through same (qs ++ q ∷ []) k m ≡ evaluation_through same qs k m)
          → evaluation_of_body (evaluation_through same (qs ++ q ∷ []) k) n body ≡ evaluation_of_body (evaluation_through same qs k) n body
      by None e agree = refl
      by (Some body) e agree = body_same same qs _ _ agree n body (evaluable.closed n body e)

added_through : {K : Type 0} (same : K → K → Bool) → IsSameTest same → (qs : List (Quantity K)) (q : Quantity K) → IsEvaluable same qs
    → is_there same qs q.key ≡ false → UsesOnly same qs q.body → (k : ℕ) → length qs ≤ k → (n : K)
    → evaluation_through same (qs ++ q ∷ []) (suc k) n
    ≡ (if same q.key n then evaluation_of_body (evaluation_of same qs) q.key (Some q.body) else evaluation_of same qs n)
added_through same law qs q evaluable fresh uses k enough n = by (same q.key n) refl where
  by : (hit : Bool) → same q.key n ≡ hit → evaluation_through same (qs ++ q ∷ []) (suc k) n
      ≡ (if hit then evaluation_of_body (evaluation_of same qs) q.key (Some q.body) else evaluation_of same qs n)
  by true e =
      let is : q.key ≡ n = law.sound q.key n e in
      ap (evaluation_of_body (evaluation_through same (qs ++ q ∷ []) k) n) (body_of-added_new same qs q n fresh is e)
      ∙ ap (λ m. evaluation_of_body (evaluation_through same (qs ++ q ∷ []) k) m (Some q.body)) (sym is)
      ∙ body_same same qs _ _
      (λ m known. through_same same law qs q evaluable fresh k m (other_key same law qs q fresh m known) ∙ evaluable.settled k m enough)
      q.key q.body uses
  by false e = through_same same law qs q evaluable fresh (suc k) n e ∙ evaluable.settled (suc k) n (omega arith)

length-added : {A : Type 0} (xs : List A) (x : A) → length (xs ++ x ∷ []) ≡ suc (length xs)
length-added [] x = refl
length-added (first ∷ xs) x = ap suc (length-added xs x)

-- the new evaluation is found from those that stand, and they stay
pub evaluation_of-added : {K : Type 0} (same : K → K → Bool) → IsSameTest same → (qs : List (Quantity K)) (q : Quantity K) → IsEvaluable same qs
    → is_there same qs q.key ≡ false → UsesOnly same qs q.body → (n : K) → evaluation_of same (qs ++ q ∷ []) n
    ≡ (if same q.key n then evaluation_of_body (evaluation_of same qs) q.key (Some q.body) else evaluation_of same qs n)
unfolding evaluation_of
evaluation_of-added same law qs q evaluable fresh uses n =
    ap (λ k. evaluation_through same (qs ++ q ∷ []) k n) (length-added qs q)
    ∙ added_through same law qs q evaluable fresh uses (length qs) (omega arith) n

-- ---- what has a span or a fault
-- the mean of a column of a table that is taken has a span
mean_there : (t : Table) (column : ℕ) → IsColumn t column → IsSome (mean_span t column)
mean_there t column h =
    let range = mean_in_range t h.taken column h.there in
    outward_there (exact_mean t column) (exact_mean t column) range range

is_some-map : {A B : Type 0} (f : A → B) (o : Option A) → is_some (option_map f o) ≡ is_some o
is_some-map f None = refl
is_some-map f (Some x) = refl

known_body : {K : Type 0} (same : K → K → Bool) (qs : List (Quantity K)) → IsEvaluable same qs → (row : K) (body : Body K) → UsesOnly same qs body
    → is_some (evaluation_of_body (evaluation_of same qs) row (Some body)) ≡ true
known_body same qs evaluable row (Input estimate) uses = refl
known_body same qs evaluable row (Column t column) uses =
    is_some-map Enclosed (mean_span t column) ∙ mean_there t column uses.column
known_body same qs evaluable row (Function f key) uses =
    is_evaluated (λ n. evaluation_of same qs (key n)) row f
    (AllNames-map (λ n. is_there same qs (key n) ≡ true) (λ n. is_some (evaluation_of same qs (key n)) ≡ true)
    (λ n e. evaluable.found (key n) ∙ e) f (keys_known (is_there same qs) key f uses.known))

-- ---- what stands
pub evaluable_empty : {K : Type 0} (same : K → K → Bool) → IsEvaluable same []
unfolding evaluation_of
evaluable_empty same = record {
  settled = λ k n within. settled k n;
  closed = λ n body e. absurd (none-some body e);
  found = λ n. refl;
} where
  settled : (k : ℕ) (n : _) → evaluation_through same [] k n ≡ None
  settled zero n = refl
  settled (suc k) n = refl

pub evaluable-added : {K : Type 0} (same : K → K → Bool) → IsSameTest same → (qs : List (Quantity K)) (q : Quantity K) → IsEvaluable same qs
    → is_there same qs q.key ≡ false → UsesOnly same qs q.body → IsEvaluable same (qs ++ q ∷ [])
evaluable-added same law qs q evaluable fresh uses = record { settled = settled; closed = closed; found = found } where
  settled : (k : ℕ) (n : _) → length (qs ++ q ∷ []) ≤ k
      → evaluation_through same (qs ++ q ∷ []) k n ≡ evaluation_of same (qs ++ q ∷ []) n
  settled zero n enough = absurd (omega (arith, length-added qs q))
  settled (suc k) n enough =
      added_through same law qs q evaluable fresh uses k (omega (arith, length-added qs q)) n
      ∙ sym (evaluation_of-added same law qs q evaluable fresh uses n)

  closed_at : (n : _) (body : Body _) (hit : Bool) → same q.key n ≡ hit → body_of same (qs ++ q ∷ []) n ≡ Some body
      → UsesOnly same (qs ++ q ∷ []) body
  closed_at n body true e is =
      let new = body_of-added_new same qs q n fresh (law.sound q.key n e) e in
      subst (UsesOnly same (qs ++ q ∷ [])) (same_Some q.body body (sym new ∙ is)) (UsesOnly-kept same qs q q.body uses)
  closed_at n body false e is =
      UsesOnly-kept same qs q body (evaluable.closed n body (sym (body_of-added_other same qs q n e) ∙ is))

  closed : (n : _) (body : Body _) → body_of same (qs ++ q ∷ []) n ≡ Some body → UsesOnly same (qs ++ q ∷ []) body
  closed n body is = closed_at n body (same q.key n) refl is

  found_at : (n : _) (hit : Bool) → is_some (if hit then evaluation_of_body (evaluation_of same qs) q.key (Some q.body) else evaluation_of same qs n)
      ≡ (if is_there same qs n then true else hit)
  found_at n true = known_body same qs evaluable q.key q.body uses ∙ sym (either (is_there same qs n)) where
    either : (b : Bool) → (if b then true else true) ≡ true
    either true = refl
    either false = refl
  found_at n false = evaluable.found n ∙ sym (itself (is_there same qs n)) where
    itself : (b : Bool) → (if b then true else false) ≡ b
    itself true = refl
    itself false = refl

  found : (n : _) → is_some (evaluation_of same (qs ++ q ∷ []) n) ≡ is_there same (qs ++ q ∷ []) n
  found n = ap is_some (evaluation_of-added same law qs q evaluable fresh uses n) ∙ found_at n (same q.key n) ∙ sym (is_there-added same qs q n)

-- ---- the order in which quantities are listed
pub evaluations_same : {K : Type 0} (same : K → K → Bool) (qs others : List (Quantity K)) → length qs ≡ length others
    → ((n : K) → body_of same qs n ≡ body_of same others n) → (n : K) → evaluation_of same qs n ≡ evaluation_of same others n
unfolding evaluation_of
evaluations_same same qs others len bodies n = turns (length qs) n ∙ ap (λ k. evaluation_through same others k n) len where
  turns : (k : ℕ) (m : _) → evaluation_through same qs k m ≡ evaluation_through same others k m
  turns zero m = refl
  turns (suc k) m =
      ap (evaluation_of_body (evaluation_through same qs k) m) (bodies m)
      ∙ ap (λ found. evaluation_of_body found m (body_of same others m)) (fun_ext (turns k))
