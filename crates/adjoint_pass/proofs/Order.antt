-- Quantities in order, the last first: their nodes fall, and each is found under its key.
use Rattle.std.specs.Prelude.{◌≡◌, Bool, true, false, not, cond, if◌then◌else◌, List, [], ◌∷◌, ◌++◌, map, find, is_some, Option, Some, None, refl}
use Rattle.std.specs.Prelude.{◌⊎◌, reverse}
use Rattle.std.specs.List.{AllByRecursion, list_any}
use Rattle.std.proofs.Common.{sym, ◌∙◌, ap, subst, inl, inr}
use Rattle.std.proofs.lemmas.Bool.{true≢false, or_cases, false_from_ne_true}
use Rattle.std.proofs.lemmas.List.{append_assoc, append-nil}
use Rattle.std.proofs.lemmas.Option.{none-some}
use mathlib.Core.List.{reverse_aux}
use mathlib.Core.Path.{fun_ext}
use Rattle.exact_law.specs.Model.{IsSameTest}
use Rattle.fixed_interval.specs.Interval.{Interval}
use Rattle.value_cache.specs.Quantities.{Quantity, body_of, is_there, first_unknown, used_by}
use Rattle.value_cache.specs.Evaluable.{AreInOrder}
use Rattle.adjoint_pass.specs.Sensitivities.{uses_of, node_of}
use Rattle.adjoint_pass.proofs.Lists.{all_weaker, all_mapped}
use Rattle.adjoint_pass.proofs.Turns.{AreFalling}

-- each has a key that no later one has, and uses later ones alone
abbrev pub IsLastFirst : {K : Type 0} → (K → K → Bool) → List (Quantity K) → Type 0
IsLastFirst same [] = Unit {0}
IsLastFirst same (q ∷ qs) = (is_there same qs q.key ≡ false) × (first_unknown same qs (used_by q.body) ≡ None) × IsLastFirst same qs

pub record IsReversed {K : Type 0} (same : K → K → Bool) (qs rs : List (Quantity K)) : Type 0 where
  pub last_first : IsLastFirst same rs
  pub bodies : (n : K) → body_of same rs n ≡ body_of same qs n

-- ---- one quantity more, at the end or at the front
none_from_false : {A : Type 0} (o : Option A) → is_some o ≡ false → o ≡ None
none_from_false None e = refl
none_from_false (Some x) e = absurd (true≢false e)

body_of-last : {K : Type 0} (same : K → K → Bool) → IsSameTest same → (before : List (Quantity K)) (q : Quantity K) → is_there same before q.key ≡ false
    → (n : K) → body_of same (before ++ q ∷ []) n ≡ (if same q.key n then Some q.body else body_of same before n)
body_of-last same law [] q fresh n = refl
body_of-last same law (b ∷ bs) q fresh n =
    by (same b.key n) (same q.key n) refl refl (body_of-last same law bs q (rest (same b.key q.key) fresh) n) where
      rest : (t : Bool) → is_some (if t then Some b.body else body_of same bs q.key) ≡ false → is_there same bs q.key ≡ false
      rest true e = absurd (true≢false e)
      rest false e = e

      other : same b.key n ≡ true → same q.key n ≡ true → ⊥
      other e f =
          true≢false
          (sym (ap (λ t. is_some (if t then Some b.body else body_of same bs q.key)) (ap (same b.key) (law.sound q.key n f) ∙ e)) ∙ fresh)

      by : (s t : Bool) → same b.key n ≡ s → same q.key n ≡ t
          → body_of same (bs ++ q ∷ []) n ≡ (if t then Some q.body else body_of same bs n)
          → (if s then Some b.body else body_of same (bs ++ q ∷ []) n) ≡ (if t then Some q.body else (if s then Some b.body else body_of same bs n))
      by true true e f ih = absurd (other e f)
      by true false e f ih = refl
      by false t e f ih = ih

reversed_on : {K : Type 0} (same : K → K → Bool) → IsSameTest same → (before qs acc : List (Quantity K)) → AreInOrder same before qs
    → IsLastFirst same acc → ((n : K) → body_of same acc n ≡ body_of same before n) → IsReversed same (before ++ qs) (reverse_aux qs acc)
reversed_on same law before [] acc o h agree =
    subst (λ xs. IsReversed same xs acc) (sym (append-nil before)) (record { last_first = h; bodies = agree })
reversed_on same law before (q ∷ qs) acc o h agree =
    subst (λ xs. IsReversed same xs (reverse_aux qs (q ∷ acc))) (append_assoc before (q ∷ []) qs)
    (reversed_on same law (before ++ q ∷ []) qs (q ∷ acc) o.2
    (ap is_some (agree q.key) ∙ o.0, ap (λ known. find (λ n. not (is_some (known n))) (used_by q.body)) (fun_ext agree) ∙ o.1, h)
    (λ n. ap (λ body. if same q.key n then Some q.body else body) (agree n) ∙ sym (body_of-last same law before q o.0 n)))

pub reversed : {K : Type 0} (same : K → K → Bool) → IsSameTest same → (qs : List (Quantity K)) → AreInOrder same [] qs → IsReversed same qs (reverse qs)
reversed same law qs o = reversed_on same law [] qs [] o tt (λ n. refl)

-- ---- what each uses is there
pub known_later : {K : Type 0} (same : K → K → Bool) (q : Quantity K) (qs : List (Quantity K)) (n : K) → is_there same qs n ≡ true → is_there same (q ∷ qs) n ≡ true
known_later same q qs n h = by (same q.key n) where
  by : (b : Bool) → is_some (if b then Some q.body else body_of same qs n) ≡ true
  by true = refl
  by false = h

pub known_all : {K : Type 0} (same : K → K → Bool) (qs : List (Quantity K)) (ns : List K) → first_unknown same qs ns ≡ None
    → AllByRecursion (λ n. is_there same qs n ≡ true) ns
known_all same qs [] e = tt
known_all same qs (n ∷ ns) e = by (is_there same qs n) refl e (known_all same qs ns) where
  by : (b : Bool) → is_there same qs n ≡ b → cond (not b) (Some n) (first_unknown same qs ns) ≡ None
      → (first_unknown same qs ns ≡ None → AllByRecursion (λ m. is_there same qs m ≡ true) ns)
      → AllByRecursion (λ m. is_there same qs m ≡ true) (n ∷ ns)
  by true there none rest = (there, rest none)
  by false there none rest = absurd (none-some n (sym none))

-- what holds of each of some keys holds of a key that is found among them
pub holds_among : {K : Type 0} (same : K → K → Bool) → IsSameTest same → (P : K → Type 0) (ns : List K) → AllByRecursion P ns
    → (n : K) → list_any (λ m. same m n) ns ≡ true → P n
holds_among same law P [] h n e = absurd (true≢false (sym e))
holds_among same law P (m ∷ ms) h n e =
    by (or_cases (same m n) (list_any (λ k. same k n) ms) e) (holds_among same law P ms h.1 n) where
      by : (same m n ≡ true) ⊎ (list_any (λ k. same k n) ms ≡ true) → (list_any (λ k. same k n) ms ≡ true → P n) → P n
      by (inl f) rest = subst P (law.sound m n f) h.0
      by (inr f) rest = rest f

used_are_there : {K : Type 0} (same : K → K → Bool) → IsSameTest same → (qs : List (Quantity K)) (ns : List K) → first_unknown same qs ns ≡ None
    → (n : K) → list_any (λ m. same m n) ns ≡ true → is_there same qs n ≡ true
used_are_there same law qs ns e n u = holds_among same law (λ m. is_there same qs m ≡ true) ns (known_all same qs ns e) n u

pub uses_there : {K : Type 0} (same : K → K → Bool) → IsSameTest same → (rs : List (Quantity K)) → IsLastFirst same rs
    → AllByRecursion (λ q. (n : K) → uses_of same q.body n ≡ true → is_there same rs n ≡ true) rs
uses_there same law [] h = tt
uses_there same law (q ∷ qs) h = (
  λ n u. known_later same q qs n (used_are_there same law qs (used_by q.body) h.1 n u),
  all_weaker _ _ (λ r all n u. known_later same q qs n (all n u)) qs (uses_there same law qs h.2),
)

-- no later one uses this one, nor does it itself
unused_by_later : {K : Type 0} (same : K → K → Bool) → IsSameTest same → (q : Quantity K) (qs : List (Quantity K)) → IsLastFirst same (q ∷ qs)
    → AllByRecursion (λ r. uses_of same r.body q.key ≡ false) (q ∷ qs)
unused_by_later same law q qs h = (
  false_from_ne_true _ (λ u. true≢false (sym (used_are_there same law qs (used_by q.body) h.1 q.key u) ∙ h.0)),
  all_weaker _ _ (λ r all. false_from_ne_true _ (λ u. true≢false (sym (all q.key u) ∙ h.0))) qs (uses_there same law qs h.2),
)

pub nodes_falling : {K : Type 0} (same : K → K → Bool) → IsSameTest same → (given : K → Option Interval) (rs : List (Quantity K)) → IsLastFirst same rs
    → AreFalling (map (node_of same given) rs)
nodes_falling same law given [] h = tt
nodes_falling same law given (q ∷ qs) h = (
  all_mapped (λ u. u.uses q.key ≡ false) (node_of same given) (q ∷ qs) (unused_by_later same law q qs h),
  nodes_falling same law given qs h.2,
)
