-- Names that are put at the end unless they are there: the first of each kind.
use Rattle.std.proofs.Common.{◌≡◌, ℕ, Bool, true, false, ◌||◌, ◌&&◌, cond, List, [], ◌∷◌, ◌++◌, refl, sym, ◌∙◌, ap, subst, append_assoc}
use Rattle.std.specs.Prelude.{bytes_eq, filter, not}
use Rattle.std.proofs.lemmas.List.{append-nil}
use Rattle.std.proofs.lemmas.List.Elements.{filter_agree}
use Rattle.std.proofs.lemmas.Slice.Eq.{bytes_eq-Decides}
use Rattle.std.proofs.Math.Bool.{or-false}
use Rattle.formula_ast.specs.Trees.{Tree, distinct, uses, names_of}
use Rattle.formula_ast.specs.NewNames.{has, with_new, with_all_new}

pub with_all_parts : (names a b : List (List ℕ)) → with_all_new names (a ++ b) ≡ with_all_new (with_all_new names a) b
with_all_parts names [] b = refl
with_all_parts names (n ∷ ns) b = with_all_parts (with_new names n) ns b

-- ---- tests of names
abbrev new_to : List (List ℕ) → List ℕ → Bool
new_to names m = not (has names m)

abbrev other_than : List ℕ → List ℕ → Bool
other_than n m = not (bytes_eq n m)

abbrev both : (List ℕ → Bool) → (List ℕ → Bool) → List ℕ → Bool
both p q m = p m && q m

filter_both_by : (p q : List ℕ → Bool) (x : List ℕ) (s t : Bool) (xs ys : List (List ℕ)) → p x ≡ s → q x ≡ t → filter q xs ≡ ys →
    filter q (cond s (x ∷ xs) xs) ≡ cond (s && t) (x ∷ ys) ys
filter_both_by p q x true true xs ys e f h = rw f (ap (λ zs. x ∷ zs) h)
filter_both_by p q x true false xs ys e f h = rw f h
filter_both_by p q x false t xs ys e f h = h

filter_both : (p q : List ℕ → Bool) (xs : List (List ℕ)) → filter q (filter p xs) ≡ filter (both p q) xs
filter_both p q [] = refl
filter_both p q (x ∷ xs) = filter_both_by p q x (p x) (q x) (filter p xs) (filter (both p q) xs) refl refl (filter_both p q xs)

filter_true : (xs : List (List ℕ)) → filter (λ m. true) xs ≡ xs
filter_true [] = refl
filter_true (x ∷ xs) = ap (λ ys. x ∷ ys) (filter_true xs)

or_more : (a b c : Bool) → (a || (b || c)) ≡ ((a || b) || c)
or_more true b c = refl
or_more false b c = refl

or_swapped : (a b : Bool) → not (a || b) ≡ (not b && not a)
or_swapped true true = refl
or_swapped true false = refl
or_swapped false true = refl
or_swapped false false = refl

has_more : (names : List (List ℕ)) (n m : List ℕ) → has (names ++ n ∷ []) m ≡ (has names m || bytes_eq n m)
has_more [] n m = or-false (bytes_eq n m)
has_more (x ∷ xs) n m = ap (λ b. bytes_eq x m || b) (has_more xs n m) ∙ or_more (bytes_eq x m) (has xs m) (bytes_eq n m)

-- new to a list with n at its end
new_to_more : (names : List (List ℕ)) (n m : List ℕ) → both (other_than n) (new_to names) m ≡ new_to (names ++ n ∷ []) m
new_to_more names n m = sym (ap not (has_more names n m) ∙ or_swapped (has names m) (bytes_eq n m))

-- new to a list that has n
new_to_same_by : (names : List (List ℕ)) (n m : List ℕ) (t : Bool) → bytes_eq n m ≡ t → has names n ≡ true → (not t && new_to names m) ≡ new_to names m
new_to_same_by names n m false e h = refl
new_to_same_by names n m true e h =
    let same : n ≡ m = (bytes_eq-Decides n m).0 e in
    let there : has names m ≡ true = subst (λ k. has names k ≡ true) same h in
    rw there refl

new_to_same : (names : List (List ℕ)) (n : List ℕ) → has names n ≡ true → (m : List ℕ) → both (other_than n) (new_to names) m ≡ new_to names m
new_to_same names n h m = new_to_same_by names n m (bytes_eq n m) refl h

-- ---- what is put at the end
one_put : (names ns ds : List (List ℕ)) (n : List ℕ) (t : Bool) → has names n ≡ t →
    ((others : List (List ℕ)) → with_all_new others ns ≡ others ++ filter (new_to others) ds) →
    with_all_new (cond t names (names ++ n ∷ [])) ns
    ≡ names ++ cond (not t) (n ∷ filter (new_to names) (filter (other_than n) ds)) (filter (new_to names) (filter (other_than n) ds))
one_put names ns ds n true e h =
    h names ∙ ap (λ xs. names ++ xs) (sym (filter_both (other_than n) (new_to names) ds
    ∙ filter_agree (both (other_than n) (new_to names)) (new_to names) (new_to_same names n e) ds))
one_put names ns ds n false e h =
    h (names ++ n ∷ []) ∙ append_assoc names (n ∷ []) (filter (new_to (names ++ n ∷ [])) ds)
    ∙ ap (λ xs. names ++ n ∷ xs) (sym (filter_both (other_than n) (new_to names) ds
    ∙ filter_agree (both (other_than n) (new_to names)) (new_to (names ++ n ∷ [])) (new_to_more names n) ds))

all_put : (ns names : List (List ℕ)) → with_all_new names ns ≡ names ++ filter (new_to names) (distinct ns)
all_put [] names = sym (append-nil names)
all_put (n ∷ ns) names = one_put names ns (distinct ns) n (has names n) refl (all_put ns)

pub with_all_is_distinct : (f : Tree) → with_all_new [] (uses f) ≡ names_of f
with_all_is_distinct f = all_put (uses f) [] ∙ filter_true (distinct (uses f))
