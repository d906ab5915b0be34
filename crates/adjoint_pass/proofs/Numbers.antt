-- Lists of numbers: what is in them, what passes a test, and lists in which none comes twice.
use Rattle.std.specs.Prelude.{◌≡◌, ℕ, ◌+◌, ◌≤◌, Bool, true, false, ◌&&◌, ◌||◌, nat_eq, if◌then◌else◌, List, [], ◌∷◌, map, filter, reverse, take, drop, sum_by, refl}
use Rattle.std.specs.List.{list_all, list_any}
use Rattle.std.proofs.Common.{arith, sym, ◌∙◌, ap, ap₂}
use Rattle.std.proofs.lemmas.Bool.{true≢false, and_from, or_right}
use Rattle.std.proofs.lemmas.Bool.Decides.{nat_tests}
use Rattle.std.proofs.lemmas.List.{take-append-drop}
use Rattle.std.proofs.lemmas.List.Folds.{list_any-append}
use Rattle.std.proofs.lemmas.List.Sums.{sum_by-cons}
use Rattle.dep_graph.proofs.Orders.{has-filter}
use mathlib.Core.List.{reverse_aux}
use Rattle.exact_law.specs.Model.{IsSameTest}
use Rattle.dep_graph.specs.Nodes.{has}
use Rattle.value_cache.proofs.Rules.{has-first}

pub same_numbers : IsSameTest nat_eq
same_numbers = record { sound = λ m n h. grind (arith, nat_tests); complete = λ n. grind (arith, nat_tests) }

pub itself : (n : ℕ) → nat_eq n n ≡ true
itself n = grind (arith, nat_tests)

pub equal : (m n : ℕ) → nat_eq m n ≡ true → m ≡ n
equal m n h = grind (arith, nat_tests)

pub turned : (m n : ℕ) → nat_eq m n ≡ nat_eq n m
turned m n = grind (arith, nat_tests)

-- ---- what is in a list
pub has-next : (m n : ℕ) (ns : List ℕ) → has ns n ≡ true → has (m ∷ ns) n ≡ true
has-next m n ns h = or_right (nat_eq n m) (has ns n) h

pub has-turned : (ns : List ℕ) (n : ℕ) → list_any (λ m. nat_eq m n) ns ≡ has ns n
has-turned [] n = refl
has-turned (m ∷ ns) n = ap₂ (λ a b. a || b) (turned m n) (has-turned ns n)

-- before a place and from there on
pub has-parts : (i : ℕ) (ns : List ℕ) (n : ℕ) → has ns n ≡ (has (take i ns) n || has (drop i ns) n)
has-parts i ns n = ap (λ l. has l n) (sym (take-append-drop i ns)) ∙ list_any-append (nat_eq n) (take i ns) (drop i ns)

-- ---- tests and functions that are the same at each of the list
pub map_same_at : {B : Type 0} (f g : ℕ → B) (ns : List ℕ) → ((n : ℕ) → has ns n ≡ true → f n ≡ g n) → map f ns ≡ map g ns
map_same_at f g [] same = refl
map_same_at f g (n ∷ ns) same = ap₂ (λ x xs. x ∷ xs) (same n (has-first n ns)) (map_same_at f g ns (λ m h. same m (has-next n m ns h)))

pub all_at : (p : ℕ → Bool) (ns : List ℕ) → ((n : ℕ) → has ns n ≡ true → p n ≡ true) → list_all p ns ≡ true
all_at p [] h = refl
all_at p (n ∷ ns) h = and_from (p n) (list_all p ns) (h n (has-first n ns)) (all_at p ns (λ m k. h m (has-next n m ns k)))

-- ---- filters
pub filter-filter : (p q : ℕ → Bool) (ns : List ℕ) → filter p (filter q ns) ≡ filter q (filter p ns)
filter-filter p q [] = refl
filter-filter p q (n ∷ ns) = by (p n) refl (q n) refl (filter-filter p q ns) where
  by : (a : Bool) → p n ≡ a → (b : Bool) → q n ≡ b → filter p (filter q ns) ≡ filter q (filter p ns)
      → filter p (if b then n ∷ filter q ns else filter q ns) ≡ filter q (if a then n ∷ filter p ns else filter p ns)
  by true e true f rest = rw (e, f) (ap (λ l. n ∷ l) rest)
  by true e false f rest = rw f rest
  by false e true f rest = rw e rest
  by false e false f rest = rest

filter-reverse_aux : (p : ℕ → Bool) (xs ys : List ℕ) → filter p (reverse_aux xs ys) ≡ reverse_aux (filter p xs) (filter p ys)
filter-reverse_aux p [] ys = refl
filter-reverse_aux p (x ∷ xs) ys = filter-reverse_aux p xs (x ∷ ys) ∙ by (p x) where
  by : (b : Bool) → reverse_aux (filter p xs) (if b then x ∷ filter p ys else filter p ys)
      ≡ reverse_aux (if b then x ∷ filter p xs else filter p xs) (filter p ys)
  by true = refl
  by false = refl

pub filter-reverse : (p : ℕ → Bool) (ns : List ℕ) → filter p (reverse ns) ≡ reverse (filter p ns)
filter-reverse p ns = filter-reverse_aux p ns []

-- ---- lists in which none comes twice
abbrev pub AreApart : List ℕ → Type 0
AreApart [] = Unit {0}
AreApart (n ∷ ns) = (has ns n ≡ false) × AreApart ns

-- how often k comes in a list
abbrev pub times : ℕ → List ℕ → ℕ
times k ns = sum_by (λ n. if nat_eq n k then 1 else 0) ns

never_there : (k : ℕ) (ns : List ℕ) → has ns k ≡ false → times k ns ≡ 0
never_there k [] h = refl
never_there k (n ∷ ns) h = by (nat_eq k n) refl (turned n k) (never_there k ns) h where
  by : (b : Bool) → nat_eq k n ≡ b → nat_eq n k ≡ nat_eq k n → (has ns k ≡ false → times k ns ≡ 0) → (b || has ns k) ≡ false → times k (n ∷ ns) ≡ 0
  by true e t rest h = absurd (true≢false h)
  by false e t rest h =
      let f : nat_eq n k ≡ false = t ∙ e in
      sum_by-cons (λ m. if nat_eq m k then 1 else 0) n ns ∙ rw (f, rest h) refl

pub once : (k : ℕ) (ns : List ℕ) → AreApart ns → times k ns ≤ 1
once k [] h = omega arith
once k (n ∷ ns) h = by (nat_eq n k) refl (sum_by-cons (λ m. if nat_eq m k then 1 else 0) n ns) (once k ns h.1) where
  by : (b : Bool) → nat_eq n k ≡ b → times k (n ∷ ns) ≡ (if nat_eq n k then 1 else 0) + times k ns → times k ns ≤ 1 → times k (n ∷ ns) ≤ 1
  by true e s rest =
      let none : times k ns ≡ 0 = never_there k ns (ap (has ns) (sym (equal n k e)) ∙ h.0) in
      let first : ◌≡◌ {A = ℕ} (if nat_eq n k then 1 else 0) 1 = rw e refl in
      omega (arith, s, none, first)
  by false e s rest = let first : ◌≡◌ {A = ℕ} (if nat_eq n k then 1 else 0) 0 = rw e refl in omega (arith, s, rest, first)

-- those that are left of such a list
pub apart-filter : (p : ℕ → Bool) (ns : List ℕ) → AreApart ns → AreApart (filter p ns)
apart-filter p [] h = tt
apart-filter p (n ∷ ns) h = by (p n) (apart-filter p ns h.1) where
  none : has (filter p ns) n ≡ false
  none = has-filter p ns n ∙ ap (λ a. a && p n) h.0

  by : (b : Bool) → AreApart (filter p ns) → AreApart (if b then n ∷ filter p ns else filter p ns)
  by true rest = (none, rest)
  by false rest = rest
