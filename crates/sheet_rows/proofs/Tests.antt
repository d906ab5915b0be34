-- Tests of lists and of names.
use Rattle.std.proofs.Common.{◌≡◌, ℕ, Bool, true, false, ◌||◌, ◌&&◌, cond, not, List, [], ◌∷◌, Option, None, Some, refl, sym, ap, ◌∙◌, true≢false}
use Rattle.std.specs.Prelude.{find, bytes_eq, is_some}
use Rattle.std.specs.List.{list_any, list_all}
use Rattle.std.proofs.lemmas.Slice.Eq.{bytes_eq-Decides}
use Rattle.std.proofs.lemmas.Bool.{and_parts, and_from, not-true}

found_none : {X : Type 0} (t : Bool) (x : X) (r : Option X) → cond t (Some x) r ≡ None → (t ≡ false) × (r ≡ None)
found_none true x r h = absurd (true≢false (ap is_some h))
found_none false x r h = (refl, h)

pub none_all : {X : Type 0} (p : X → Bool) (xs : List X) → find (λ x. not (p x)) xs ≡ None → list_all p xs ≡ true
none_all p [] h = refl
none_all p (x ∷ xs) h =
    let both = found_none (not (p x)) x (find (λ y. not (p y)) xs) h in
    and_from (p x) (list_all p xs) (holds (p x) both.0) (none_all p xs both.1)
  where
    holds : (b : Bool) → not b ≡ false → b ≡ true
    holds true e = refl
    holds false e = absurd (true≢false e)

pub all_none : {X : Type 0} (p : X → Bool) (xs : List X) → list_all p xs ≡ true → find (λ x. not (p x)) xs ≡ None
all_none p [] h = refl
all_none p (x ∷ xs) h =
    ap (λ b. cond (not b) (Some x) (find (λ y. not (p y)) xs)) (and_parts (p x) (list_all p xs) h).0 ∙ all_none p xs (and_parts (p x) (list_all p xs) h).1

-- none is found where each does not pass
pub none_of : {X : Type 0} (p : X → Bool) (xs : List X) → find p xs ≡ None → list_any p xs ≡ false
none_of p [] h = refl
none_of p (x ∷ xs) h =
    let both = found_none (p x) x (find p xs) h in
    λ j. both.0 j || none_of p xs both.1 j

pub all_more : {X : Type 0} (p q : X → Bool) → ((x : X) → p x ≡ true → q x ≡ true) → (xs : List X) → list_all p xs ≡ true → list_all q xs ≡ true
all_more p q h [] g = refl
all_more p q h (x ∷ xs) g = and_from (q x) (list_all q xs) (h x (and_parts (p x) (list_all p xs) g).0) (all_more p q h xs (and_parts (p x) (list_all p xs) g).1)

other_by : (n m : List ℕ) (t : Bool) → bytes_eq m n ≡ t → bytes_eq n m ≡ false → t ≡ false
other_by n m false e h = refl
other_by n m true e h = absurd (true≢false (sym ((bytes_eq-Decides n m).1 (sym ((bytes_eq-Decides m n).0 e))) ∙ h))

pub other_way : (n m : List ℕ) → bytes_eq n m ≡ false → bytes_eq m n ≡ false
other_way n m h = other_by n m (bytes_eq m n) refl h

pub same_name : (n m : List ℕ) → bytes_eq n m ≡ true → n ≡ m
same_name n m h = (bytes_eq-Decides n m).0 h

pub named_itself : (n : List ℕ) → bytes_eq n n ≡ true
named_itself n = (bytes_eq-Decides n n).1 refl

ways_by : (n m : List ℕ) (t : Bool) → bytes_eq n m ≡ t → t ≡ bytes_eq m n
ways_by n m true e = sym (ap (bytes_eq m) (same_name n m e) ∙ named_itself m)
ways_by n m false e = sym (other_way n m e)

pub both_ways_same : (n m : List ℕ) → bytes_eq n m ≡ bytes_eq m n
both_ways_same n m = ways_by n m (bytes_eq n m) refl

-- ---- tests that all pass
pub all_true : {X : Type 0} (xs : List X) → list_all (λ x. true) xs ≡ true
all_true [] = refl
all_true (x ∷ xs) = all_true xs

pub all_two : {X : Type 0} (p q r : X → Bool) → ((x : X) → p x ≡ true → q x ≡ true → r x ≡ true)
    → (xs : List X) → list_all p xs ≡ true → list_all q xs ≡ true → list_all r xs ≡ true
all_two p q r h [] f g = refl
all_two p q r h (x ∷ xs) f g =
    let a = and_parts (p x) (list_all p xs) f in
    let b = and_parts (q x) (list_all q xs) g in
    and_from (r x) (list_all r xs) (h x a.0 b.0) (all_two p q r h xs a.1 b.1)

four : (a b c d : Bool) → ((a && b) && (c && d)) ≡ ((a && c) && (b && d))
four true true c d = refl
four true false true d = refl
four true false false d = refl
four false b c d = refl

pub all_both : {X : Type 0} (p q : X → Bool) (xs : List X) → list_all (λ x. p x && q x) xs ≡ (list_all p xs && list_all q xs)
all_both p q [] = refl
all_both p q (x ∷ xs) = ap (λ b. (p x && q x) && b) (all_both p q xs) ∙ four (p x) (q x) (list_all p xs) (list_all q xs)

-- of each pair, in the one order and in the other
pub all_pairs : {X Y : Type 0} (f : X → Y → Bool) (xs : List X) (ys : List Y)
    → list_all (λ x. list_all (f x) ys) xs ≡ list_all (λ y. list_all (λ x. f x y) xs) ys
all_pairs f [] ys = sym (all_true ys)
all_pairs f (x ∷ xs) ys =
    ap (λ b. list_all (f x) ys && b) (all_pairs f xs ys) ∙ sym (all_both (f x) (λ y. list_all (λ z. f z y) xs) ys)

pub none_passes : {X : Type 0} (p : X → Bool) (xs : List X) → not (list_any p xs) ≡ list_all (λ x. not (p x)) xs
none_passes p [] = refl
none_passes p (x ∷ xs) = not_or (p x) (list_any p xs) ∙ ap (λ b. not (p x) && b) (none_passes p xs)
  where
    not_or : (a b : Bool) → not (a || b) ≡ (not a && not b)
    not_or true b = refl
    not_or false b = refl

-- none is found where none passes
pub found_of_none : {X : Type 0} (p : X → Bool) (xs : List X) → list_all (λ x. not (p x)) xs ≡ true → find p xs ≡ None
found_of_none p [] h = refl
found_of_none p (x ∷ xs) h =
    let both = and_parts (not (p x)) (list_all (λ y. not (p y)) xs) h in
    ap (λ b. cond b (Some x) (find p xs)) (not-true (p x) both.0) ∙ found_of_none p xs both.1

pub none_found : {X : Type 0} (p : X → Bool) (xs : List X) → find p xs ≡ None → list_all (λ x. not (p x)) xs ≡ true
none_found p xs h = sym (none_passes p xs) ∙ ap not (none_of p xs h)

pub list_all_agree : {X : Type 0} (p q : X → Bool) → ((x : X) → p x ≡ q x) → (xs : List X) → list_all p xs ≡ list_all q xs
list_all_agree p q h [] = refl
list_all_agree p q h (x ∷ xs) = λ j. h x j && list_all_agree p q h xs j
