-- What it costs at most to find sensitivities: each row of the cone brings something to a quantity for each of its
-- names at most.
use Rattle.std.specs.Prelude.{◌≡◌, ℕ, zero, suc, ◌+◌, ◌*◌, ◌≤◌, Bool, true, false, ◌||◌, nat_eq, if◌then◌else◌, List, [], ◌∷◌, map, find, filter, length, sum_by, is_some, Option, None, Some, refl}
use Rattle.std.specs.List.{list_any}
use Rattle.std.proofs.Common.{arith, sym, ◌∙◌, ap}
use Rattle.std.proofs.Math.Nat.{suc-mul}
use Rattle.std.proofs.lemmas.List.{length-map}
use Rattle.std.proofs.lemmas.List.Sums.{sum_by-cons, sum_by-le-sum_by}
use mathlib.Core.Path.{fun_ext}
use Rattle.formula_ast.specs.Trees.{uses, distinct, names_of}
use Rattle.value_cache.specs.Quantities.{Body, Input, Function, Column}
use Rattle.value_cache.specs.Rules.{Bodies}
use Rattle.value_cache.proofs.Names.{find-distinct_keys}
use Rattle.adjoint_pass.specs.Costs.{term_cost, name_count, row_cost, gradient_cost}
use Rattle.adjoint_pass.proofs.Numbers.{turned, times}
use Rattle.adjoint_pass.proofs.Rows.{uses_at}

-- ---- sums
sum-zero : {X : Type 0} (xs : List X) → sum_by (λ x. 0) xs ≡ 0
sum-zero [] = refl
sum-zero (x ∷ xs) = omega (arith, sum_by-cons (λ y. 0) x xs, sum-zero xs)

sum-added : {X : Type 0} (f g : X → ℕ) (xs : List X) → sum_by (λ x. f x + g x) xs ≡ sum_by f xs + sum_by g xs
sum-added f g [] = refl
sum-added f g (x ∷ xs) = omega (arith, sum_by-cons (λ y. f y + g y) x xs, sum_by-cons f x xs, sum_by-cons g x xs, sum-added f g xs)

-- a sum of sums, by rows and by columns
sum-turned : {X Y : Type 0} (g : X → Y → ℕ) (xs : List X) (ys : List Y) → sum_by (λ x. sum_by (g x) ys) xs ≡ sum_by (λ y. sum_by (λ x. g x y) xs) ys
sum-turned g [] ys = sym (sum-zero ys)
sum-turned g (x ∷ xs) ys =
    sum_by-cons (λ z. sum_by (g z) ys) x xs
    ∙ ap (λ n. sum_by (g x) ys + n) (sum-turned g xs ys)
    ∙ sym (sum-added (g x) (λ y. sum_by (λ z. g z y) xs) ys)
    ∙ ap (λ f. sum_by f ys) (fun_ext (λ y. sym (sum_by-cons (λ z. g z y) x xs)))

pub sum-filter : {X : Type 0} (f : X → ℕ) (p : X → Bool) (xs : List X) → sum_by f (filter p xs) ≡ sum_by (λ x. if p x then f x else 0) xs
sum-filter f p [] = refl
sum-filter f p (x ∷ xs) = by (p x) (sum-filter f p xs) ∙ sym (sum_by-cons (λ y. if p y then f y else 0) x xs) where
  by : (b : Bool) → sum_by f (filter p xs) ≡ sum_by (λ y. if p y then f y else 0) xs
      → sum_by f (if b then x ∷ filter p xs else filter p xs) ≡ (if b then f x else 0) + sum_by (λ y. if p y then f y else 0) xs
  by true rest = sum_by-cons f x (filter p xs) ∙ ap (λ n. f x + n) rest
  by false rest = rest ∙ omega arith

-- ---- one row
weighed : (e k : ℕ) (ns : List ℕ) → sum_by (λ n. if nat_eq n k then e else 0) ns ≡ times k ns * e
weighed e k [] = omega arith
weighed e k (n ∷ ns) =
    sum_by-cons (λ m. if nat_eq m k then e else 0) n ns ∙ ap (λ s. (if nat_eq n k then e else 0) + s) (weighed e k ns)
    ∙ by (nat_eq n k) (times k ns) ∙ sym (ap (λ t. t * e) (sum_by-cons (λ m. if nat_eq m k then 1 else 0) n ns)) where
      by : (b : Bool) (t : ℕ) → (if b then e else 0) + t * e ≡ ((if b then 1 else 0) + t) * e
      by true t = let s : 1 + t ≡ suc t = omega arith in rw s (omega (arith, suc-mul t e))
      by false t = let s : 0 + t ≡ t = omega arith in rw s (omega arith)

at_most_once : (t e : ℕ) → t ≤ 1 → t * e ≤ e
at_most_once zero e h = omega arith
at_most_once (suc zero) e h = omega arith
at_most_once (suc (suc t)) e h = absurd (omega (arith, h))

-- each of these is one of the keys at most once
keyed : (e : ℕ) (ns ks : List ℕ) → ((k : ℕ) → times k ns ≤ 1) → sum_by (λ n. if list_any (λ k. nat_eq k n) ks then e else 0) ns ≤ length ks * e
keyed e ns [] h = omega (arith, sum-zero ns)
keyed e ns (k ∷ ks) h =
    let first : sum_by (λ n. if nat_eq n k then e else 0) ns ≤ e =
    omega (arith, weighed e k ns, at_most_once (times k ns) e (h k)) in
    omega (
      arith,
      first,
      keyed e ns ks h,
      suc-mul (length ks) e,
      sum-added (λ n. if nat_eq n k then e else 0) (λ n. if list_any (λ j. nat_eq j n) ks then e else 0) ns,
      sum_by-le-sum_by (λ n. if nat_eq k n || list_any (λ j. nat_eq j n) ks then e else 0)
          (λ n. (if nat_eq n k then e else 0) + (if list_any (λ j. nat_eq j n) ks then e else 0)) ns
          (λ n. by (nat_eq k n) (nat_eq n k) (turned k n) (list_any (λ j. nat_eq j n) ks)),
    ) where
      by : (a b : Bool) → a ≡ b → (c : Bool) → (if a || c then e else 0) ≤ (if b then e else 0) + (if c then e else 0)
      by true true s c = omega arith
      by true false s c = absurd (cc)
      by false true s c = absurd (cc)
      by false false s c = omega arith

-- one of the names stands for it, or none does
any_found : {X : Type 0} (p : X → Bool) (xs : List X) → is_some (find p xs) ≡ list_any p xs
any_found p [] = refl
any_found p (x ∷ xs) = by (p x) (any_found p xs) where
  by : (b : Bool) → is_some (find p xs) ≡ list_any p xs → is_some (if b then Some x else find p xs) ≡ (b || list_any p xs)
  by true rest = refl
  by false rest = rest

any_distinct : (key : List ℕ → ℕ) (names : List (List ℕ)) (n : ℕ) → list_any (λ k. nat_eq k n) (map key (distinct names)) ≡ list_any (λ k. nat_eq k n) (map key names)
any_distinct key names n =
    sym (any_found (λ k. nat_eq k n) (map key (distinct names))) ∙ ap is_some (find-distinct_keys (λ k. nat_eq k n) key names)
    ∙ any_found (λ k. nat_eq k n) (map key names)

row_brings : (e : ℕ) (body : Option (Body ℕ)) (ns : List ℕ) → ((k : ℕ) → times k ns ≤ 1) → sum_by (λ n. if uses_at body n then e else 0) ns ≤ name_count body * e
row_brings e None ns h = omega (arith, sum-zero ns)
row_brings e (Some (Input estimate)) ns h = omega (arith, sum-zero ns)
row_brings e (Some (Column t column)) ns h = omega (arith, sum-zero ns)
row_brings e (Some (Function f key)) ns h =
    let same : sum_by (λ n. if list_any (λ k. nat_eq k n) (map key (names_of f)) then e else 0) ns
    ≡ sum_by (λ n. if list_any (λ k. nat_eq k n) (map key (uses f)) then e else 0) ns =
    ap (λ g. sum_by g ns) (fun_ext (λ n. ap (λ b. if b then e else 0) (any_distinct key (uses f) n))) in
    let count : length (map key (names_of f)) ≡ length (names_of f) = length-map (names_of f) key in
    rw (← same, ← count) (keyed e ns (map key (names_of f)) h)

-- ---- the cone
-- what is brought to n, and to y its own sensitivity
abbrev pub cost_at : Bodies → ℕ → List ℕ → ℕ → ℕ
cost_at bodies y cone n = if nat_eq n y then 1 else sum_by (λ m. term_cost (bodies m)) (filter (λ m. uses_at (bodies m) n) cone)

pub cone_costs : (bodies : Bodies) (y : ℕ) (cone : List ℕ) → ((k : ℕ) → times k cone ≤ 1)
    → sum_by (cost_at bodies y cone) cone ≤ gradient_cost bodies cone
cone_costs bodies y cone h =
    let brings : ℕ → ℕ → ℕ = λ n m. if uses_at (bodies m) n then term_cost (bodies m) else 0 in
    omega (
      arith,
      h y,
      sum_by-le-sum_by (cost_at bodies y cone) (λ n. (if nat_eq n y then 1 else 0) + sum_by (brings n) cone) cone
          (λ n. by (nat_eq n y) (sum-filter (λ m. term_cost (bodies m)) (λ m. uses_at (bodies m) n) cone)),
      sum-added (λ n. if nat_eq n y then 1 else 0) (λ n. sum_by (brings n) cone) cone,
      sum-turned brings cone cone,
      sum_by-le-sum_by (λ m. sum_by (λ n. brings n m) cone) (λ m. row_cost (bodies m)) cone
          (λ m. row_brings (term_cost (bodies m)) (bodies m) cone h),
    ) where
      by : {a b : ℕ} (t : Bool) → a ≡ b → (if t then 1 else a) ≤ (if t then 1 else 0) + b
      by true e = omega arith
      by false e = omega (arith, e)
