-- What holds of each element of a list, filtered and mapped.
use Rattle.std.specs.Prelude.{◌≡◌, Bool, true, false, cond, ◌||◌, List, [], ◌∷◌, map, filter, reverse, refl}
use Rattle.std.specs.List.{AllByRecursion, list_any}
use Rattle.std.proofs.Common.{ap, ap₂}
use mathlib.Core.List.{reverse_aux}

pub all_weaker : {X : Type 0} (P Q : X → Type 0) → ((x : X) → P x → Q x) → (xs : List X) → AllByRecursion P xs → AllByRecursion Q xs
all_weaker P Q step [] h = tt
all_weaker P Q step (x ∷ xs) h = (step x h.0, all_weaker P Q step xs h.1)

pub all_from_both : {X : Type 0} (P Q R : X → Type 0) → ((x : X) → P x → Q x → R x) → (xs : List X) → AllByRecursion P xs → AllByRecursion Q xs → AllByRecursion R xs
all_from_both P Q R step [] h k = tt
all_from_both P Q R step (x ∷ xs) h k = (step x h.0 k.0, all_from_both P Q R step xs h.1 k.1)

pub all_mapped : {X Y : Type 0} (P : Y → Type 0) (f : X → Y) (xs : List X) → AllByRecursion (λ x. P (f x)) xs → AllByRecursion P (map f xs)
all_mapped P f [] h = tt
all_mapped P f (x ∷ xs) h = (h.0, all_mapped P f xs h.1)

-- what holds of those that pass holds of the filtered list
pub all_passing : {X : Type 0} (P : X → Type 0) (p : X → Bool) (xs : List X) → AllByRecursion (λ x. p x ≡ true → P x) xs → AllByRecursion P (filter p xs)
all_passing P p [] h = tt
all_passing P p (x ∷ xs) h = by (p x) refl (all_passing P p xs h.1) where
  by : (b : Bool) → p x ≡ b → AllByRecursion P (filter p xs) → AllByRecursion P (cond b (x ∷ filter p xs) (filter p xs))
  by true e rest = (h.0 e, rest)
  by false e rest = rest

pub all_filtered : {X : Type 0} (P : X → Type 0) (p : X → Bool) (xs : List X) → AllByRecursion P xs → AllByRecursion P (filter p xs)
all_filtered P p xs h = all_passing P p xs (all_weaker P (λ x. p x ≡ true → P x) (λ x k e. k) xs h)

pub filter-none : {X : Type 0} (p : X → Bool) (xs : List X) → AllByRecursion (λ x. p x ≡ false) xs → filter p xs ≡ []
filter-none p [] h = refl
filter-none p (x ∷ xs) h = rw h.0 (filter-none p xs h.1)

pub filter-map : {X Y : Type 0} (p : Y → Bool) (f : X → Y) (xs : List X) → filter p (map f xs) ≡ map f (filter (λ x. p (f x)) xs)
filter-map p f [] = refl
filter-map p f (x ∷ xs) = by (p (f x)) (filter-map p f xs) where
  by : (b : Bool) → filter p (map f xs) ≡ map f (filter (λ y. p (f y)) xs)
      → cond b (f x ∷ filter p (map f xs)) (filter p (map f xs)) ≡ map f (cond b (x ∷ filter (λ y. p (f y)) xs) (filter (λ y. p (f y)) xs))
  by true rest = ap (λ ys. f x ∷ ys) rest
  by false rest = rest

pub map_same : {X Y : Type 0} (f g : X → Y) (xs : List X) → AllByRecursion (λ x. f x ≡ g x) xs → map f xs ≡ map g xs
map_same f g [] h = refl
map_same f g (x ∷ xs) h = ap₂ (λ y ys. y ∷ ys) h.0 (map_same f g xs h.1)

pub any_same : {X : Type 0} (f g : X → Bool) (xs : List X) → AllByRecursion (λ x. f x ≡ g x) xs → list_any f xs ≡ list_any g xs
any_same f g [] h = refl
any_same f g (x ∷ xs) h = ap₂ (λ a b. a || b) h.0 (any_same f g xs h.1)

pub all_unmapped : {X Y : Type 0} (P : Y → Type 0) (f : X → Y) (xs : List X) → AllByRecursion P (map f xs) → AllByRecursion (λ x. P (f x)) xs
all_unmapped P f [] h = tt
all_unmapped P f (x ∷ xs) h = (h.0, all_unmapped P f xs h.1)

all_reversed_on : {X : Type 0} (P : X → Type 0) (xs done : List X) → AllByRecursion P xs → AllByRecursion P done → AllByRecursion P (reverse_aux xs done)
all_reversed_on P [] done h k = k
all_reversed_on P (x ∷ xs) done h k = all_reversed_on P xs (x ∷ done) h.1 (h.0, k)

pub all_reversed : {X : Type 0} (P : X → Type 0) (xs : List X) → AllByRecursion P xs → AllByRecursion P (reverse xs)
all_reversed P xs h = all_reversed_on P xs [] h tt
