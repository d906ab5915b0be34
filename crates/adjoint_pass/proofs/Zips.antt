-- Two lists whose elements are alike, place by place.
use Rattle.std.specs.Prelude.{◌≡◌, suc, Bool, true, false, cond, ◌&&◌, ◌||◌, List, [], ◌∷◌, map, filter, reverse, length, refl}
use Rattle.std.specs.List.{AllByRecursion, AllZip, list_any, list_all}
use Rattle.std.proofs.Common.{ap, ap₂}
use mathlib.Core.List.{reverse_aux}

pub length-zip : {X Y : Type 0} (R : X → Y → Type 0) (xs : List X) (ys : List Y) → AllZip R xs ys → length xs ≡ length ys
length-zip R [] [] z = refl
length-zip R [] (y ∷ ys) z = absurd z
length-zip R (x ∷ xs) [] z = absurd z
length-zip R (x ∷ xs) (y ∷ ys) z = ap suc (length-zip R xs ys z.1)

-- with what holds of the elements of the first list
pub zip_with_all : {X Y : Type 0} (P : X → Type 0) (R S : X → Y → Type 0) → ((x : X) (y : Y) → P x → R x y → S x y)
    → (xs : List X) (ys : List Y) → AllByRecursion P xs → AllZip R xs ys → AllZip S xs ys
zip_with_all P R S step [] [] h z = tt
zip_with_all P R S step [] (y ∷ ys) h z = absurd z
zip_with_all P R S step (x ∷ xs) [] h z = absurd z
zip_with_all P R S step (x ∷ xs) (y ∷ ys) h z = (step x y h.0 z.0, zip_with_all P R S step xs ys h.1 z.1)

zip-reversed_on : {X Y : Type 0} (R : X → Y → Type 0) (xs done : List X) (ys others : List Y) → AllZip R xs ys → AllZip R done others
    → AllZip R (reverse_aux xs done) (reverse_aux ys others)
zip-reversed_on R [] done [] others z w = w
zip-reversed_on R [] done (y ∷ ys) others z w = absurd z
zip-reversed_on R (x ∷ xs) done [] others z w = absurd z
zip-reversed_on R (x ∷ xs) done (y ∷ ys) others z w = zip-reversed_on R xs (x ∷ done) ys (y ∷ others) z.1 (z.0, w)

pub zip-reverse : {X Y : Type 0} (R : X → Y → Type 0) (xs : List X) (ys : List Y) → AllZip R xs ys → AllZip R (reverse xs) (reverse ys)
zip-reverse R xs ys z = zip-reversed_on R xs [] ys [] z tt

pub zip-map : {X Y V W : Type 0} (R : X → Y → Type 0) (S : V → W → Type 0) (f : X → V) (g : Y → W) → ((x : X) (y : Y) → R x y → S (f x) (g y))
    → (xs : List X) (ys : List Y) → AllZip R xs ys → AllZip S (map f xs) (map g ys)
zip-map R S f g step [] [] z = tt
zip-map R S f g step [] (y ∷ ys) z = absurd z
zip-map R S f g step (x ∷ xs) [] z = absurd z
zip-map R S f g step (x ∷ xs) (y ∷ ys) z = (step x y z.0, zip-map R S f g step xs ys z.1)

pub zip-filter : {X Y : Type 0} (R : X → Y → Type 0) (p : X → Bool) (q : Y → Bool) → ((x : X) (y : Y) → R x y → q y ≡ p x)
    → (xs : List X) (ys : List Y) → AllZip R xs ys → AllZip R (filter p xs) (filter q ys)
zip-filter R p q test [] [] z = tt
zip-filter R p q test [] (y ∷ ys) z = absurd z
zip-filter R p q test (x ∷ xs) [] z = absurd z
zip-filter R p q test (x ∷ xs) (y ∷ ys) z = rw (test x y z.0) (by (p x) (zip-filter R p q test xs ys z.1)) where
  by : (b : Bool) → AllZip R (filter p xs) (filter q ys)
      → AllZip R (cond b (x ∷ filter p xs) (filter p xs)) (cond b (y ∷ filter q ys) (filter q ys))
  by true rest = (z.0, rest)
  by false rest = rest

pub map-zip : {X Y A : Type 0} (R : X → Y → Type 0) (f : X → A) (g : Y → A) → ((x : X) (y : Y) → R x y → g y ≡ f x)
    → (xs : List X) (ys : List Y) → AllZip R xs ys → map g ys ≡ map f xs
map-zip R f g e [] [] z = refl
map-zip R f g e [] (y ∷ ys) z = absurd z
map-zip R f g e (x ∷ xs) [] z = absurd z
map-zip R f g e (x ∷ xs) (y ∷ ys) z = ap₂ (λ a as'. a ∷ as') (e x y z.0) (map-zip R f g e xs ys z.1)

pub any-zip : {X Y : Type 0} (R : X → Y → Type 0) (p : X → Bool) (q : Y → Bool) → ((x : X) (y : Y) → R x y → q y ≡ p x)
    → (xs : List X) (ys : List Y) → AllZip R xs ys → list_any q ys ≡ list_any p xs
any-zip R p q test [] [] z = refl
any-zip R p q test [] (y ∷ ys) z = absurd z
any-zip R p q test (x ∷ xs) [] z = absurd z
any-zip R p q test (x ∷ xs) (y ∷ ys) z = ap₂ (λ a b. a || b) (test x y z.0) (any-zip R p q test xs ys z.1)

pub all-zip : {X Y : Type 0} (R : X → Y → Type 0) (p : X → Bool) (q : Y → Bool) → ((x : X) (y : Y) → R x y → q y ≡ p x)
    → (xs : List X) (ys : List Y) → AllZip R xs ys → list_all q ys ≡ list_all p xs
all-zip R p q test [] [] z = refl
all-zip R p q test [] (y ∷ ys) z = absurd z
all-zip R p q test (x ∷ xs) [] z = absurd z
all-zip R p q test (x ∷ xs) (y ∷ ys) z = ap₂ (λ a b. a && b) (test x y z.0) (all-zip R p q test xs ys z.1)
