-- The first element of a list that passes a test.
use Rattle.std.specs.Prelude.{◌≡◌, ℕ, zero, suc, ◌+◌, ◌≤◌, ◌<◌, ◌⊎◌, Bool, true, false, cond, Option, None, Some, List, [], ◌∷◌, ◌++◌, map, filter, refl}
use Rattle.std.specs.List.{AllByRecursion, find, flat_map, range_with_len}
use Rattle.std.proofs.Common.{sym, ◌∙◌, ap, subst, arith, inl, inr}
use Rattle.std.proofs.lemmas.Bool.{both_ways, cases_eq}

-- x stands in a list
abbrev pub Stands : {X : Type 0} → X → List X → Type 0
Stands x [] = ⊥
Stands x (y ∷ ys) = (x ≡ y) ⊎ Stands x ys

-- ---- what is found
found_step : {X : Type 0} (test : X → Bool) (x y : X) (ys : List X) (b : Bool) → test y ≡ b → (test y ≡ true → y ≡ x) → test x ≡ true
    → (x ≡ y) ⊎ Stands x ys → (Stands x ys → find test ys ≡ Some x) → cond b (Some y) (find test ys) ≡ Some x
found_step test x y ys true e only t s later = ap Some (only e)
found_step test x y ys false e only t (inl s) later = absurd (both_ways (test y) e (ap test (sym s) ∙ t))
found_step test x y ys false e only t (inr s) later = later s

-- an element that passes is found, where no other one does
pub found_only : {X : Type 0} (test : X → Bool) (x : X) (xs : List X) → AllByRecursion (λ y. test y ≡ true → y ≡ x) xs → test x ≡ true → Stands x xs
    → find test xs ≡ Some x
found_only test x [] only t s = absurd s
found_only test x (y ∷ ys) only t s = found_step test x y ys (test y) refl only.0 t s (found_only test x ys only.1 t)

none_step : {X : Type 0} (y : X) (o : Option X) (b : Bool) → (b ≡ true → ⊥) → o ≡ None → cond b (Some y) o ≡ None
none_step y o true h e = absurd (h refl)
none_step y o false h e = e

-- where no element passes, none is found
pub none_found : {X : Type 0} (test : X → Bool) (xs : List X) → AllByRecursion (λ y. test y ≡ true → ⊥) xs → find test xs ≡ None
none_found test [] fails = refl
none_found test (y ∷ ys) fails = none_step y (find test ys) (test y) fails.0 (none_found test ys fails.1)

passes_step : {X : Type 0} (test : X → Bool) (x y : X) (o : Option X) (b : Bool) → test y ≡ b → cond b (Some y) o ≡ Some x → (o ≡ Some x → test x ≡ true)
    → test x ≡ true
passes_step test x y o true e f later =
    let same : y ≡ x = cc in
    ap test (sym same) ∙ e
passes_step test x y o false e f later = later f

-- what is found passes
pub found_passes : {X : Type 0} (test : X → Bool) (x : X) (xs : List X) → find test xs ≡ Some x → test x ≡ true
found_passes test x [] e = cc
found_passes test x (y ∷ ys) e = passes_step test x y (find test ys) (test y) refl e (found_passes test x ys)

fails_step : {X : Type 0} (test : X → Bool) (x y : X) (ys : List X) (b : Bool) → test y ≡ b → cond b (Some y) (find test ys) ≡ None → test x ≡ true
    → (x ≡ y) ⊎ Stands x ys → (find test ys ≡ None → Stands x ys → ⊥) → ⊥
fails_step test x y ys true e f t s later = cc
fails_step test x y ys false e f t (inl s) later = both_ways (test y) e (ap test (sym s) ∙ t)
fails_step test x y ys false e f t (inr s) later = later f s

-- where none is found, none that stands there passes
pub none_passes : {X : Type 0} (test : X → Bool) (x : X) (xs : List X) → find test xs ≡ None → test x ≡ true → Stands x xs → ⊥
none_passes test x [] e t s = s
none_passes test x (y ∷ ys) e t s = fails_step test x y ys (test y) refl e t s (λ f r. none_passes test x ys f t r)

-- ---- what stands where
pub stands_left : {X : Type 0} (x : X) (xs ys : List X) → Stands x xs → Stands x (xs ++ ys)
stands_left x [] ys s = absurd s
stands_left x (z ∷ zs) ys (inl s) = inl s
stands_left x (z ∷ zs) ys (inr s) = inr (stands_left x zs ys s)

pub stands_right : {X : Type 0} (x : X) (xs ys : List X) → Stands x ys → Stands x (xs ++ ys)
stands_right x [] ys s = s
stands_right x (z ∷ zs) ys s = inr (stands_right x zs ys s)

pub stands_map : {X Y : Type 0} (f : X → Y) (x : X) (xs : List X) → Stands x xs → Stands (f x) (map f xs)
stands_map f x [] s = s
stands_map f x (y ∷ ys) (inl s) = inl (ap f s)
stands_map f x (y ∷ ys) (inr s) = inr (stands_map f x ys s)

kept_step : {X : Type 0} (test : X → Bool) (x y : X) (zs : List X) (b : Bool) → test y ≡ b → test x ≡ true → (x ≡ y) ⊎ Stands x zs → Stands x (cond b (y ∷ zs) zs)
kept_step test x y zs true e t s = s
kept_step test x y zs false e t (inl s) = absurd (both_ways (test y) e (ap test (sym s) ∙ t))
kept_step test x y zs false e t (inr s) = s

pub stands_filter : {X : Type 0} (test : X → Bool) (x : X) (xs : List X) → test x ≡ true → Stands x xs → Stands x (filter test xs)
stands_filter test x [] t s = s
stands_filter test x (y ∷ ys) t (inl s) = kept_step test x y (filter test ys) (test y) refl t (inl s)
stands_filter test x (y ∷ ys) t (inr s) = kept_step test x y (filter test ys) (test y) refl t (inr (stands_filter test x ys t s))

pub stands_flat_map : {X Y : Type 0} (f : X → List Y) (x : X) (y : Y) (xs : List X) → Stands y (f x) → Stands x xs → Stands y (flat_map f xs)
stands_flat_map f x y [] t s = absurd s
stands_flat_map f x y (z ∷ zs) t (inl s) = stands_left y (f z) (flat_map f zs) (subst (λ u. Stands y (f u)) s t)
stands_flat_map f x y (z ∷ zs) t (inr s) = stands_right y (f z) (flat_map f zs) (stands_flat_map f x y zs t s)

pub stands_range : (m a n : ℕ) → a ≤ m → m < a + n → Stands m (range_with_len a n)
stands_range m a zero h k = absurd (omega arith)
stands_range m a (suc n) h k = elim (cases_eq m a) [
  | inl e ↦ inl e
  | inr e ↦ inr (stands_range m (a + 1) n (omega arith) (omega arith))
]

-- ---- what all elements are
pub all_follow : {X : Type 0} (P Q : X → Type 0) (xs : List X) → ((x : X) → P x → Q x) → AllByRecursion P xs → AllByRecursion Q xs
all_follow P Q [] f h = tt
all_follow P Q (x ∷ xs) f h = (f x h.0, all_follow P Q xs f h.1)

all_append : {X : Type 0} (P : X → Type 0) (xs ys : List X) → AllByRecursion P xs → AllByRecursion P ys → AllByRecursion P (xs ++ ys)
all_append P [] ys h k = k
all_append P (x ∷ xs) ys h k = (h.0, all_append P xs ys h.1 k)

pub all_map : {X Y : Type 0} (P : Y → Type 0) (f : X → Y) (xs : List X) → AllByRecursion (λ x. P (f x)) xs → AllByRecursion P (map f xs)
all_map P f [] h = tt
all_map P f (x ∷ xs) h = (h.0, all_map P f xs h.1)

pub all_flat_map : {X Y : Type 0} (P : Y → Type 0) (f : X → List Y) (xs : List X) → ((x : X) → AllByRecursion P (f x)) → AllByRecursion P (flat_map f xs)
all_flat_map P f [] h = tt
all_flat_map P f (x ∷ xs) h = all_append P (f x) (flat_map f xs) (h x) (all_flat_map P f xs h)

pub all_range : (P : ℕ → Type 0) (a n end : ℕ) → a + n ≤ end → ((m : ℕ) → a ≤ m → m < end → P m) → AllByRecursion P (range_with_len a n)
all_range P a zero end h f = tt
all_range P a (suc n) end h f = (f a (omega arith) (omega arith), all_range P (a + 1) n end (omega arith) (λ m k l. f m (omega arith) l))
