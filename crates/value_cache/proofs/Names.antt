-- What holds of each name in a formula, and of the keys for which the names stand.
use Rattle.std.specs.Prelude.{◌≡◌, ℕ, Bool, true, false, not, if◌then◌else◌, List, [], ◌∷◌, map, find, filter, bytes_eq, Option, Some, None, refl}
use Rattle.std.specs.Option.{option_or, option_map}
use Rattle.std.proofs.Common.{sym, ◌∙◌, ap}
use Rattle.std.proofs.lemmas.List.Folds.{find-append}
use Rattle.std.proofs.lemmas.Option.{none-some}
use Rattle.std.proofs.lemmas.Slice.Eq.{bytes_eq-Decides}
use Rattle.exact_law.specs.Model.{IsSameTest}
use Rattle.formula_ast.specs.Trees.{Tree, Number, Variable, Opposite, Joined, Raised, uses, distinct}

pub same_names : IsSameTest bytes_eq
same_names = record { sound = λ a b e. (bytes_eq-Decides a b).0 e; complete = λ a. (bytes_eq-Decides a a).1 refl }

abbrev pub AllNames : (List ℕ → Type 0) → Tree → Type 0
AllNames P (Number q) = Unit {0}
AllNames P (Variable n) = P n
AllNames P (Opposite a) = AllNames P a
AllNames P (Joined s a b) = AllNames P a × AllNames P b
AllNames P (Raised a k) = AllNames P a

pub AllNames-map : (P Q : List ℕ → Type 0) → ((n : List ℕ) → P n → Q n) → (f : Tree) → AllNames P f → AllNames Q f
AllNames-map P Q step (Number q) h = tt
AllNames-map P Q step (Variable n) h = step n h
AllNames-map P Q step (Opposite a) h = AllNames-map P Q step a h
AllNames-map P Q step (Joined s a b) h = (AllNames-map P Q step a h.0, AllNames-map P Q step b h.1)
AllNames-map P Q step (Raised a k) h = AllNames-map P Q step a h

-- ---- a search for an unknown name that finds none
parts_none : {A : Type 0} (a b : Option A) → option_or a b ≡ None → (a ≡ None) × (b ≡ None)
parts_none None b e = (refl, e)
parts_none (Some x) b e = absurd (none-some x (sym e))

true_from_none : {A : Type 0} (x : A) (known : Bool) → (if not known then Some x else None) ≡ None → known ≡ true
true_from_none x true e = refl
true_from_none x false e = absurd (none-some x (sym e))

pub names_known : (known : List ℕ → Bool) (f : Tree) → find (λ n. not (known n)) (uses f) ≡ None → AllNames (λ n. known n ≡ true) f
names_known known (Number q) e = tt
names_known known (Variable n) e = true_from_none n (known n) e
names_known known (Opposite a) e = names_known known a e
names_known known (Joined s a b) e =
    let parts = parts_none _ _ (sym (find-append (λ n. not (known n)) (uses a) (uses b)) ∙ e) in
    (names_known known a parts.0, names_known known b parts.1)
names_known known (Raised a k) e = names_known known a e

none_unknown : (known : List ℕ → Bool) (f : Tree) → AllNames (λ n. known n ≡ true) f → find (λ n. not (known n)) (uses f) ≡ None
none_unknown known (Number q) h = refl
none_unknown known (Variable n) h = rw h refl
none_unknown known (Opposite a) h = none_unknown known a h
none_unknown known (Joined s a b) h =
    rw (find-append (λ n. not (known n)) (uses a) (uses b), none_unknown known a h.0, none_unknown known b h.1) refl
none_unknown known (Raised a k) h = none_unknown known a h

-- ---- the same of the keys
find-map : {A B : Type 0} (p : B → Bool) (f : A → B) (xs : List A) → find p (map f xs) ≡ option_map f (find (λ x. p (f x)) xs)
find-map p f [] = refl
find-map p f (x ∷ xs) = by (p (f x)) (find-map p f xs) where
  by : (found : Bool) → find p (map f xs) ≡ option_map f (find (λ y. p (f y)) xs)
      → (if found then Some (f x) else find p (map f xs)) ≡ option_map f (if found then Some x else find (λ y. p (f y)) xs)
  by true rest = refl
  by false rest = rest

none_of_map : {A B : Type 0} (f : A → B) (o : Option A) → option_map f o ≡ None → o ≡ None
none_of_map f None e = refl
none_of_map f (Some x) e = absurd (none-some (f x) (sym e))

pub keys_known : {K : Type 0} (known : K → Bool) (key : List ℕ → K) (f : Tree) → find (λ n. not (known n)) (map key (uses f)) ≡ None
    → AllNames (λ n. known (key n) ≡ true) f
keys_known known key f e =
    names_known (λ n. known (key n)) f (none_of_map key _ (sym (find-map (λ n. not (known n)) key (uses f)) ∙ e))

pub none_key_unknown : {K : Type 0} (known : K → Bool) (key : List ℕ → K) (f : Tree) → AllNames (λ n. known (key n) ≡ true) f
    → find (λ n. not (known n)) (map key (uses f)) ≡ None
none_key_unknown known key f h =
    find-map (λ n. not (known n)) key (uses f) ∙ ap (option_map key) (none_unknown (λ n. known (key n)) f h)

-- ---- the first name with a property is the same in a list and in its distinct names
find-without : (p : List ℕ → Bool) (n : List ℕ) (ns : List (List ℕ)) → p n ≡ false
    → find p (filter (λ m. not (bytes_eq n m)) ns) ≡ find p ns
find-without p n [] h = refl
find-without p n (m ∷ ns) h = by (bytes_eq n m) refl (find-without p n ns h) where
  by : (same : Bool) → bytes_eq n m ≡ same → find p (filter (λ m. not (bytes_eq n m)) ns) ≡ find p ns
      → find p (filter (λ m. not (bytes_eq n m)) (m ∷ ns)) ≡ find p (m ∷ ns)
  by true e rest =
      let absent : p m ≡ false = ap p (sym ((bytes_eq-Decides n m).0 e)) ∙ h in
      rw (e, absent) rest
  by false e rest = rw e (ap (λ o. if p m then Some m else o) rest)

pub find-distinct : (p : List ℕ → Bool) (ns : List (List ℕ)) → find p (distinct ns) ≡ find p ns
find-distinct p [] = refl
find-distinct p (n ∷ ns) = by (p n) refl (find-distinct p ns) where
  by : (found : Bool) → p n ≡ found → find p (distinct ns) ≡ find p ns → find p (distinct (n ∷ ns)) ≡ find p (n ∷ ns)
  by true e rest = rw e refl
  by false e rest = rw e (find-without p n (distinct ns) e ∙ rest)

pub find-distinct_keys : {K : Type 0} (p : K → Bool) (key : List ℕ → K) (ns : List (List ℕ))
    → find p (map key (distinct ns)) ≡ find p (map key ns)
find-distinct_keys p key ns =
    find-map p key (distinct ns) ∙ ap (option_map key) (find-distinct (λ n. p (key n)) ns) ∙ sym (find-map p key ns)
