-- The rows of the quantities on which one depends, the last first, are an order of the model in which each stands before
-- the rows that it uses.
use Rattle.std.specs.Prelude.{◌≡◌, ℕ, zero, suc, ◌≤◌, ◌<◌, Bool, true, false, not, cond, if◌then◌else◌, ◌||◌, List, [], ◌∷◌, map, filter, find, is_some, Option, Some, None, refl}
use Rattle.std.specs.Prelude.{◌⊎◌}
use Rattle.std.specs.List.{AllByRecursion, list_any}
use Rattle.std.proofs.Common.{sym, ◌∙◌, ap, arith, inl, inr}
use Rattle.std.proofs.lemmas.Bool.{true≢false, and_from, or_cases, or_left, or_right, false_from_ne_true}
use Rattle.exact_law.specs.Model.{Key, IsSameTest, replaced, keys, absent, once, uses_only, body_uses_only, is_order, AreOf}
use Rattle.fixed_interval.specs.Interval.{Interval}
use Rattle.formula_ast.specs.Trees.{Tree, Number, Variable, Opposite, Joined, Raised, uses}
use Rattle.formula_ast.specs.declared.token.Sign.{Sign}
use Rattle.formula_ast.specs.declared.token.Sign.TheVariants.{Plus, Minus, Times, Over}
use Rattle.formula_box.specs.Exact.{expression_of}
use Rattle.value_cache.specs.Quantities.{Body, Input, Function, Column, Quantity, body_of, is_there, used_by}
use Rattle.value_cache.specs.Model.{model_body, model_of}
use Rattle.value_cache.proofs.Names.{AllNames, keys_known}
use Rattle.value_cache.proofs.Sound.{model_bodies, model-body_of}
use Rattle.adjoint_pass.specs.Sweep.{Node, users, is_in_cone_through}
use Rattle.adjoint_pass.specs.Sensitivities.{uses_of, node_of}
use Rattle.adjoint_pass.proofs.Lists.{all_weaker, all_from_both}
use Rattle.adjoint_pass.proofs.Turns.{AreFalling, place, rising, users_before}
use Rattle.adjoint_pass.proofs.Order.{IsLastFirst, known_all}

-- ---- each quantity is found under its key
pub found_by_key : {K : Type 0} (same : K → K → Bool) → IsSameTest same → (rs : List (Quantity K)) → IsLastFirst same rs
    → AllByRecursion (λ q. body_of same rs q.key ≡ Some q.body) rs
found_by_key same law [] h = tt
found_by_key same law (q ∷ qs) h = (
  ap (λ b. if b then Some q.body else body_of same qs q.key) (law.complete q.key),
  all_weaker _ (λ r. body_of same (q ∷ qs) r.key ≡ Some r.body) (λ r e. later r e (same q.key r.key) refl) qs (found_by_key same law qs h.2),
) where
  later : (r : Quantity _) → body_of same qs r.key ≡ Some r.body → (b : Bool) → same q.key r.key ≡ b
      → (if b then Some q.body else body_of same qs r.key) ≡ Some r.body
  later r e true f =
      absurd (true≢false (sym (ap is_some e) ∙ ap (is_there same qs) (sym (law.sound q.key r.key f)) ∙ h.0))
  later r e false f = e

pub rows_of_model : {K : Type 0} (same : K → K → Bool) (qs : List (Quantity K)) (rs : List (Quantity K))
    → AllByRecursion (λ q. body_of same qs q.key ≡ Some q.body) rs → AreOf same (model_of qs) (model_of rs)
unfolding AreOf
rows_of_model same qs [] h = tt
rows_of_model same qs (q ∷ rs) h = (model-body_of same qs q.key ∙ ap model_bodies h.0, rows_of_model same qs rs h.1)

-- ---- the keys of those that pass a test
abbrev passing : {K : Type 0} → (K → Bool) → List (Quantity K) → List (Quantity K)
passing p rs = filter (λ q. p q.key) rs

absent_keys : {K : Type 0} (same : K → K → Bool) (p : K → Bool) (rs : List (Quantity K)) (n : K) → is_there same rs n ≡ false
    → absent same n (keys (model_of (passing p rs))) ≡ true
unfolding absent keys
absent_keys same p [] n h = refl
absent_keys same p (q ∷ qs) n h = by (same q.key n) (p q.key) refl h (absent_keys same p qs n) where
  by : (s b : Bool) → same q.key n ≡ s → is_some (if s then Some q.body else body_of same qs n) ≡ false
      → (is_there same qs n ≡ false → absent same n (keys (model_of (passing p qs))) ≡ true)
      → absent same n (keys (model_of (cond b (q ∷ passing p qs) (passing p qs)))) ≡ true
  by true b e g rest = absurd (true≢false g)
  by false true e g rest = rw e (rest g)
  by false false e g rest = rest g

pub once_keys : {K : Type 0} (same : K → K → Bool) → IsSameTest same → (p : K → Bool) (rs : List (Quantity K)) → IsLastFirst same rs
    → (n : K) → is_there same rs n ≡ true → p n ≡ true → once same n (keys (model_of (passing p rs))) ≡ true
unfolding once keys
once_keys same law p [] h n there passes = absurd (true≢false (sym there))
once_keys same law p (q ∷ qs) h n there passes =
    by (same q.key n) (p q.key) refl refl there (once_keys same law p qs h.2 n) where
      by : (s b : Bool) → same q.key n ≡ s → p q.key ≡ b → is_some (if s then Some q.body else body_of same qs n) ≡ true
          → (is_there same qs n ≡ true → p n ≡ true → once same n (keys (model_of (passing p qs))) ≡ true)
          → once same n (keys (model_of (cond b (q ∷ passing p qs) (passing p qs)))) ≡ true
      by true true e f g rest =
          rw e (absent_keys same p qs n (ap (is_there same qs) (sym (law.sound q.key n e)) ∙ h.0))
      by true false e f g rest = absurd (true≢false (sym passes ∙ ap p (sym (law.sound q.key n e)) ∙ f))
      by false true e f g rest = rw e (rest g passes)
      by false false e f g rest = rest g passes

-- ---- an order
none_fails : {A : Type 0} (p : A → Bool) (xs : List A) → AllByRecursion (λ x. p x ≡ true) xs → find (λ x. not (p x)) xs ≡ None
none_fails p [] h = refl
none_fails p (x ∷ xs) h = rw h.0 (none_fails p xs h.1)

joined_only : {K : Type 0} (same : K → K → Bool) (ns : List K) (key : List ℕ → K) (s : Sign) (a b : Tree)
    → uses_only same ns (replaced (λ m. Key (key m)) (expression_of a)) ≡ true → uses_only same ns (replaced (λ m. Key (key m)) (expression_of b)) ≡ true
    → uses_only same ns (replaced (λ m. Key (key m)) (expression_of (Joined s a b))) ≡ true
unfolding uses_only replaced
joined_only same ns key Plus a b h k = and_from _ _ h k
joined_only same ns key Minus a b h k = and_from _ _ h k
joined_only same ns key Times a b h k = and_from _ _ h k
joined_only same ns key Over a b h k = and_from _ _ h k

formula_only : {K : Type 0} (same : K → K → Bool) (ns : List K) (key : List ℕ → K) (f : Tree) → AllNames (λ m. once same (key m) ns ≡ true) f
    → uses_only same ns (replaced (λ m. Key (key m)) (expression_of f)) ≡ true
unfolding uses_only replaced
formula_only same ns key (Number q) h = refl
formula_only same ns key (Variable m) h = h
formula_only same ns key (Opposite a) h = formula_only same ns key a h
formula_only same ns key (Joined s a b) h = joined_only same ns key s a b (formula_only same ns key a h.0) (formula_only same ns key b h.1)
formula_only same ns key (Raised a e) h = formula_only same ns key a h

uses_only_keys : {K : Type 0} (same : K → K → Bool) (ns : List K) (b : Body K) → AllByRecursion (λ n. once same n ns ≡ true) (used_by b)
    → body_uses_only same ns (model_body b) ≡ true
unfolding body_uses_only
uses_only_keys same ns (Input estimate) h = refl
uses_only_keys same ns (Function f key) h =
    formula_only same ns key f (keys_known (λ n. once same n ns) key f (none_fails (λ n. once same n ns) (map key (uses f)) h))
uses_only_keys same ns (Column t column) h = refl

-- those that pass a test that what they use passes too
pub is_order_of_passing : {K : Type 0} (same : K → K → Bool) → IsSameTest same → (p : K → Bool) (rs : List (Quantity K)) → IsLastFirst same rs
    → AllByRecursion (λ q. p q.key ≡ true → AllByRecursion (λ n. p n ≡ true) (used_by q.body)) rs
    → is_order same (model_of (passing p rs)) ≡ true
unfolding is_order
is_order_of_passing same law p [] h closed = refl
is_order_of_passing same law p (q ∷ qs) h closed = by (p q.key) refl (is_order_of_passing same law p qs h.2 closed.1) where
  by : (b : Bool) → p q.key ≡ b → is_order same (model_of (passing p qs)) ≡ true
      → is_order same (model_of (cond b (q ∷ passing p qs) (passing p qs))) ≡ true
  by true e rest =
      and_from _ _
      (and_from _ _ (absent_keys same p qs q.key h.0)
      (uses_only_keys same (keys (model_of (passing p qs))) q.body
      (all_from_both (λ n. is_there same qs n ≡ true) (λ n. p n ≡ true) (λ n. once same n (keys (model_of (passing p qs))) ≡ true)
      (λ n. once_keys same law p qs h.2 n) (used_by q.body) (known_all same qs (used_by q.body) h.1) (closed.0 e))))
      rest
  by false e rest = rest

-- ---- a cone is closed: with a quantity what it uses is in it
among_them : {K : Type 0} (same : K → K → Bool) → IsSameTest same → (ns : List K) → AllByRecursion (λ n. list_any (λ m. same m n) ns ≡ true) ns
among_them same law [] = tt
among_them same law (n ∷ ns) = (
  or_left (same n n) (list_any (λ m. same m n) ns) (law.complete n),
  all_weaker _ (λ k. list_any (λ m. same m k) (n ∷ ns) ≡ true) (λ k e. or_right (same n k) (list_any (λ m. same m k) ns) e) ns
      (among_them same law ns),
)

user_found : {K : Type 0} (same : K → K → Bool) (given : K → Option Interval) (p : K → Bool) (n : K) (rs : List (Quantity K))
    → AllByRecursion (λ q. p q.key ≡ true → uses_of same q.body n ≡ true → list_any (λ m. p m.key) (users n (map (node_of same given) rs)) ≡ true) rs
user_found same given p n [] = tt
user_found same given p n (q ∷ qs) = (
  λ passes u. rw u (or_left _ _ passes),
  all_weaker _ (λ r. p r.key ≡ true → uses_of same r.body n ≡ true → list_any (λ m. p m.key) (users n (map (node_of same given) (q ∷ qs))) ≡ true)
      (λ r found passes u. more (uses_of same q.body n) (found passes u)) qs (user_found same given p n qs),
) where
  more : (b : Bool) → list_any (λ m. p m.key) (users n (map (node_of same given) qs)) ≡ true
      → list_any (λ m. p m.key) (cond b (node_of same given q ∷ users n (map (node_of same given) qs)) (users n (map (node_of same given) qs))) ≡ true
  more true e = or_right _ _ e
  more false e = e

pub cone_uses_cone : {K : Type 0} (same : K → K → Bool) → IsSameTest same → (given : K → Option Interval) (p : K → Bool) (y : K) (rs : List (Quantity K))
    → ((n : K) → p n ≡ (same n y || list_any (λ m. p m.key) (users n (map (node_of same given) rs))))
    → AllByRecursion (λ q. p q.key ≡ true → AllByRecursion (λ n. p n ≡ true) (used_by q.body)) rs
cone_uses_cone same law given p y rs closed = each rs (λ n. user_found same given p n rs) where
  at : (q : Quantity _) → ((n : _) → p q.key ≡ true → uses_of same q.body n ≡ true → list_any (λ m. p m.key) (users n (map (node_of same given) rs)) ≡ true)
      → p q.key ≡ true → AllByRecursion (λ n. p n ≡ true) (used_by q.body)
  at q found passes =
      all_weaker (λ n. list_any (λ m. same m n) (used_by q.body) ≡ true) (λ n. p n ≡ true)
      (λ n u. closed n ∙ or_right (same n y) _ (found n passes u)) (used_by q.body) (among_them same law (used_by q.body))

  each : (qs : List (Quantity _))
      → ((n : _) → AllByRecursion (λ q. p q.key ≡ true → uses_of same q.body n ≡ true → list_any (λ m. p m.key) (users n (map (node_of same given) rs)) ≡ true) qs)
      → AllByRecursion (λ q. p q.key ≡ true → AllByRecursion (λ n. p n ≡ true) (used_by q.body)) qs
  each [] found = tt
  each (q ∷ qs) found = (at q (λ n. (found n).0), each qs (λ n. (found n).1))

-- nothing in it uses what is not
pub outside_unused : {K : Type 0} (same : K → K → Bool) (given : K → Option Interval) (p : K → Bool) (y : K) (rs : List (Quantity K))
    → ((n : K) → p n ≡ (same n y || list_any (λ m. p m.key) (users n (map (node_of same given) rs))))
    → (n : K) → p n ≡ false → AllByRecursion (λ q. p q.key ≡ true → uses_of same q.body n ≡ false) rs
outside_unused same given p y rs closed n outside =
    all_weaker (λ q. p q.key ≡ true → uses_of same q.body n ≡ true → list_any (λ m. p m.key) (users n (map (node_of same given) rs)) ≡ true)
    (λ q. p q.key ≡ true → uses_of same q.body n ≡ false)
    (λ q found passes. false_from_ne_true _ (λ u. true≢false (sym (closed n ∙ or_right (same n y) _ (found passes u)) ∙ outside)))
    rs (user_found same given p n rs)

-- ---- nothing in a cone uses the quantity itself
any_leads : {A : Type 0} (C : Type 0) (p : A → Bool) (xs : List A) → list_any p xs ≡ true → AllByRecursion (λ x. p x ≡ true → C) xs → C
any_leads C p [] e h = absurd (true≢false (sym e))
any_leads C p (x ∷ xs) e h = by (or_cases (p x) (list_any p xs) e) (λ f. any_leads C p xs f h.1) where
  by : (p x ≡ true) ⊎ (list_any p xs ≡ true) → (list_any p xs ≡ true → C) → C
  by (inl f) rest = h.0 f
  by (inr f) rest = rest f

cone_after : {K : Type 0} (same : K → K → Bool) → IsSameTest same → (nodes : List (Node K)) → AreFalling nodes → (y : K) (k : ℕ) (n : K)
    → is_in_cone_through same nodes y k n ≡ true → place same nodes y ≤ place same nodes n
cone_after same law nodes h y zero n e = absurd (true≢false (sym e))
cone_after same law nodes h y (suc k) n e = by (or_cases (same n y) _ e) (λ m. cone_after same law nodes h y k m) where
  by : (same n y ≡ true) ⊎ (list_any (λ m. is_in_cone_through same nodes y k m.key) (users n nodes) ≡ true)
      → ((m : _) → is_in_cone_through same nodes y k m ≡ true → place same nodes y ≤ place same nodes m)
      → place same nodes y ≤ place same nodes n
  by (inl f) after = rw (law.sound n y f) (omega arith)
  by (inr f) after =
      any_leads (place same nodes y ≤ place same nodes n) (λ m. is_in_cone_through same nodes y k m.key) (users n nodes) f
      (all_weaker (λ m. place same nodes m.key < place same nodes n)
      (λ m. is_in_cone_through same nodes y k m.key ≡ true → place same nodes y ≤ place same nodes n)
      (λ m before g. omega (arith, before, after m.key g)) (users n nodes) (users_before same law nodes h n))

pub none_uses_the_first : {K : Type 0} (same : K → K → Bool) → IsSameTest same → (nodes : List (Node K)) → AreFalling nodes → (y : K) (k : ℕ)
    → AllByRecursion (λ m. is_in_cone_through same nodes y k m.key ≡ true → m.uses y ≡ false) nodes
none_uses_the_first same law nodes h y k =
    all_weaker _ (λ m. is_in_cone_through same nodes y k m.key ≡ true → m.uses y ≡ false)
    (λ m before e. false_from_ne_true (m.uses y) (λ u. no (before y u) (cone_after same law nodes h y k m.key e))) nodes
    (rising same law nodes h) where
      no : {i j : ℕ} → i < j → j ≤ i → ⊥
      no a b = omega (arith, a, b)
