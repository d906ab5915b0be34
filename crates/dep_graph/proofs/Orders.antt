-- What is found, in the order of the nodes.
use Rattle.std.proofs.Common.{ap, ◌∙◌, sym, ◌≡◌, ◌&&◌, ◌||◌, not, true, false, ℕ, Bool, List, [], ◌∷◌, filter, reverse, nat_eq, refl, arith}
use Rattle.std.proofs.lemmas.Bool.{and_parts, not-true, or_right}
use Rattle.std.proofs.lemmas.Bool.Decides.{nat_tests}
use mathlib.Core.List.{reverse_aux}
use Rattle.dep_graph.specs.Nodes.{Node, has, ids_of, uses_in, users_in, AreOnce}
use Rattle.dep_graph.specs.Reaching.{IsClosure, IsCone, AreDependents}
use Rattle.dep_graph.proofs.Chains.{users-depend, depend-users}

and-false : (a : Bool) → false ≡ (a && false)
and-false true = refl
and-false false = refl

and-when : (a b : Bool) → (a ≡ true → b ≡ true) → (b && a) ≡ a
and-when true b h = rw (h refl) refl
and-when false b h = sym (and-false b)

pub has-filter : (p : ℕ → Bool) (xs : List ℕ) (n : ℕ) → has (filter p xs) n ≡ (has xs n && p n)
has-filter p [] n = refl
has-filter p (x ∷ xs) n = by (p x) (nat_eq n x) refl refl (has-filter p xs n)
  where
    by : (b t : Bool) → p x ≡ b → nat_eq n x ≡ t → has (filter p xs) n ≡ (has xs n && p n) → has (filter p (x ∷ xs)) n ≡ (has (x ∷ xs) n && p n)
    by true true q e more = let same : n ≡ x = grind (arith, nat_tests) in rw (q, e, same) (sym q)
    by false true q e more = let same : x ≡ n = grind (arith, nat_tests) in let off : p n ≡ false = ap p (sym same) ∙ q in rw (q, e, off, more, off) (sym (and-false (has xs n)))
    by true false q e more = rw (q, e) more
    by false false q e more = rw (q, e) more

has-turned : (xs ys : List ℕ) (n : ℕ) → has (reverse_aux xs ys) n ≡ (has xs n || has ys n)
has-turned [] ys n = refl
has-turned (x ∷ xs) ys n = has-turned xs (x ∷ ys) n ∙ turn (has xs n) (nat_eq n x) (has ys n)
  where
    turn : (a b c : Bool) → (a || (b || c)) ≡ ((b || a) || c)
    turn true true c = refl
    turn true false c = refl
    turn false true c = refl
    turn false false c = refl

pub has-reverse : (xs : List ℕ) (n : ℕ) → has (reverse xs) n ≡ has xs n
has-reverse xs n = has-turned xs [] n ∙ or-same (has xs n)
  where
    or-same : (a : Bool) → (a || false) ≡ a
    or-same true = refl
    or-same false = refl

-- the same elements pass where the tests agree on them
pub filter-same : (p q : ℕ → Bool) (xs : List ℕ) → ((n : ℕ) → has xs n ≡ true → p n ≡ q n) → filter p xs ≡ filter q xs
filter-same p q [] same = refl
filter-same p q (x ∷ xs) same =
    let first : p x ≡ q x = same x (let e : nat_eq x x ≡ true = grind (arith, nat_tests) in rw e refl) in
    let rest : filter p xs ≡ filter q xs = filter-same p q xs (λ n h. same n (or_right (nat_eq n x) (has xs n) h)) in
    rw (first, rest) refl

-- the nodes found, turned round, are the cone
pub cone-of : (nodes : List Node) (y : ℕ) (found : List ℕ) → IsClosure (uses_in nodes) y found → ((n : ℕ) → has found n ≡ true → has (ids_of nodes) n ≡ true)
    → IsCone nodes y (reverse (filter (has found) (ids_of nodes)))
cone-of nodes y found closure within =
    let list : List ℕ = reverse (filter (has found) (ids_of nodes)) in
    let split : (n : ℕ) → has list n ≡ (has (ids_of nodes) n && has found n) = λ n. has-reverse (filter (has found) (ids_of nodes)) n ∙ has-filter (has found) (ids_of nodes) n in
    let same : (n : ℕ) → has list n ≡ has found n = λ n. split n ∙ and-when (has found n) (has (ids_of nodes) n) (within n) in
    record {
      exactly = λ n. (λ h. closure.reached n (sym (same n) ∙ h), λ r. same n ∙ closure.whole n r);
      falling = ap reverse (filter-same (has found) (has list) (ids_of nodes) (λ n h. sym (same n)));
    }

-- the others found over users are the dependents
pub dependents-of : (nodes : List Node) → AreOnce nodes → (n : ℕ) (found : List ℕ) → IsClosure (users_in nodes) n found
    → ((y : ℕ) → has found y ≡ true → has (ids_of nodes) y ≡ true) → AreDependents nodes n (filter (λ y. not (nat_eq y n) && has found y) (ids_of nodes))
dependents-of nodes once n found closure within =
    let other : ℕ → Bool = λ y. not (nat_eq y n) && has found y in
    let list : List ℕ = filter other (ids_of nodes) in
    let there : (y : ℕ) → other y ≡ true → has (ids_of nodes) y ≡ true = λ y h. within y (and_parts (not (nat_eq y n)) (has found y) h).1 in
    let same : (y : ℕ) → has list y ≡ other y = λ y. has-filter other (ids_of nodes) y ∙ and-when (other y) (has (ids_of nodes) y) (there y) in
    record {
      exactly = λ y. (
        (λ h. let both = and_parts (not (nat_eq y n)) (has found y) (sym (same y) ∙ h) in
            (not-true (nat_eq y n) both.0, users-depend nodes once y n (closure.reached y both.1))),
        (λ d. same y ∙ (rw d.0 (closure.whole y (depend-users nodes y n d.1)))),
      );
      rising = filter-same other (has list) (ids_of nodes) (λ y h. sym (same y));
    }

-- ---- the definitions leave no choice
pub same-when : (a b : Bool) → (a ≡ true → b ≡ true) → (b ≡ true → a ≡ true) → a ≡ b
same-when true b f g = sym (f refl)
same-when false true f g = g refl
same-when false false f g = refl

pub cone-once : (nodes : List Node) (y : ℕ) (found other : List ℕ) → IsCone nodes y found → IsCone nodes y other → found ≡ other
cone-once nodes y found other c d =
    let same : (n : ℕ) → has found n ≡ has other n = λ n. same-when (has found n) (has other n) (λ h. (d.exactly n).1 ((c.exactly n).0 h)) (λ h. (c.exactly n).1 ((d.exactly n).0 h)) in
    c.falling ∙ ap reverse (filter-same (has found) (has other) (ids_of nodes) (λ n h. same n)) ∙ sym d.falling

pub dependents-once : (nodes : List Node) (n : ℕ) (found other : List ℕ) → AreDependents nodes n found → AreDependents nodes n other → found ≡ other
dependents-once nodes n found other c d =
    let same : (y : ℕ) → has found y ≡ has other y = λ y. same-when (has found y) (has other y) (λ h. (d.exactly y).1 ((c.exactly y).0 h)) (λ h. (c.exactly y).1 ((d.exactly y).0 h)) in
    c.rising ∙ filter-same (has found) (has other) (ids_of nodes) (λ y h. same y) ∙ sym d.rising
