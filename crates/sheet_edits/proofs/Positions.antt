-- Places of the first items that pass a test, item by item.
use Rattle.std.proofs.Common.{◌≡◌, ℕ, zero, suc, ◌+◌, Bool, true, false, ◌||◌, cond, not, nat_lt, List, [], ◌∷◌, length, take, Option, None, Some, is_some, refl, sym, ap, ◌∙◌, arith, lt-ltb, le-ltb, true≢false}
use Rattle.std.specs.Prelude.{position, unwrap_or, find, filter, bytes_eq}
use Rattle.std.specs.List.{position_or_len, list_any}
use Rattle.std.specs.Option.{option_map}
use Rattle.std.proofs.lemmas.Slice.Eq.{bytes_eq-Decides}
use native.Mathlib.Decide.{dec_lt}
use Rattle.formula_ast.specs.Trees.{distinct}
use Rattle.sheet_edits.specs.Places.{is_before}

pub some_same : {A : Type 0} {x y : A} → Some x ≡ Some y → x ≡ y
some_same {A} {x} e = ap (λ r. unwrap_or r x) e

pub none_some : {A : Type 0} {x : A} → None ≡ Some x → ⊥
none_some e = true≢false (sym (ap is_some e))

lt-suc : (a b : ℕ) → nat_lt (suc a) (suc b) ≡ nat_lt a b
lt-suc a b = elim (dec_lt a b) [ yes h ↦ lt-ltb (suc a) (suc b) (omega (arith, h)) ∙ sym (lt-ltb a b h) | no h ↦ le-ltb _ _ (omega (arith, h)) ∙ sym (le-ltb _ _ (omega (arith, h))) ]

module _ {X : Type 0} (p : X → Bool) where
  abbrev position_of : Bool → ℕ → ℕ → Option ℕ
  position_of t n len = cond (nat_lt (cond (not t) (1 + n) 0) (suc len)) (Some (cond (not t) (1 + n) 0)) None

  next_place : (b : Bool) (n : ℕ) → cond b (Some (1 + n)) None ≡ option_map suc (cond b (Some n) None)
  next_place true n = ap Some (omega arith)
  next_place false n = refl

  position_by : (t : Bool) (n len : ℕ) → position_of t n len ≡ cond t (Some 0) (option_map suc (cond (nat_lt n len) (Some n) None))
  position_by true n len = ap (λ b. cond b (Some 0) None) (lt-ltb 0 (suc len) (omega arith))
  position_by false n len =
      let same : nat_lt (1 + n) (suc len) ≡ nat_lt n len = ap (λ k. nat_lt k (suc len)) (omega arith) ∙ lt-suc n len in
      ap (λ b. cond b (Some (1 + n)) None) same ∙ next_place (nat_lt n len) n

  -- the place of the first of x and xs
  pub position-cons : (x : X) (xs : List X) → position p (x ∷ xs) ≡ cond (p x) (Some 0) (option_map suc (position p xs))
  position-cons x xs = position_by (p x) (position_or_len p xs) (length xs)

  some_by : (t : Bool) (r : Option ℕ) → is_some (cond t (Some 0) (option_map suc r)) ≡ (t || is_some r)
  some_by true r = refl
  some_by false None = refl
  some_by false (Some n) = refl

  pub position-any : (xs : List X) → is_some (position p xs) ≡ list_any p xs
  position-any [] = refl
  position-any (x ∷ xs) = ap is_some (position-cons x xs) ∙ some_by (p x) (position p xs) ∙ ap (λ b. p x || b) (position-any xs)

  before_none : (r : Option ℕ) → is_before 0 r ≡ false
  before_none None = refl
  before_none (Some n) = le-ltb _ _ (omega arith)

  before_by : (t : Bool) (k : ℕ) (r : Option ℕ) → is_before (suc k) (cond t (Some 0) (option_map suc r)) ≡ (t || is_before k r)
  before_by true k r = lt-ltb 0 (suc k) (omega arith)
  before_by false k None = refl
  before_by false k (Some n) = lt-suc n k

  -- one that passes stands before the place
  pub before-any : (xs : List X) (at : ℕ) → is_before at (position p xs) ≡ list_any p (take at xs)
  before-any [] zero = refl
  before-any [] (suc k) = refl
  before-any (x ∷ xs) zero = before_none (position p (x ∷ xs))
  before-any (x ∷ xs) (suc k) = ap (is_before (suc k)) (position-cons x xs) ∙ before_by (p x) k (position p xs) ∙ ap (λ b. p x || b) (before-any xs k)

  -- the first item that passes stands at the place
  abbrev pub IsFirstAt : List X → ℕ → Type 0
  IsFirstAt [] i = ⊥
  IsFirstAt (x ∷ xs) zero = p x ≡ true
  IsFirstAt (x ∷ xs) (suc i) = (p x ≡ false) × IsFirstAt xs i

  first_by : (x : X) (xs : List X) (t : Bool) (r : Option ℕ) (i : ℕ) → p x ≡ t → ((j : ℕ) → r ≡ Some j → IsFirstAt xs j)
      → cond t (Some 0) (option_map suc r) ≡ Some i → IsFirstAt (x ∷ xs) i
  first_by x xs true r zero e rest h = e
  first_by x xs true r (suc i) e rest h = absurd (omega (arith, some_same h))
  first_by x xs false None i e rest h = absurd (none_some h)
  first_by x xs false (Some j) zero e rest h = absurd (omega (arith, some_same h))
  first_by x xs false (Some j) (suc i) e rest h = (e, rest i (ap Some (omega (arith, some_same h))))

  pub first_at : (xs : List X) (i : ℕ) → position p xs ≡ Some i → IsFirstAt xs i
  first_at [] i h = none_some h
  first_at (x ∷ xs) i h = first_by x xs (p x) (position p xs) i refl (first_at xs) (sym (position-cons x xs) ∙ h)

-- ---- finding
pub find_agree : {X : Type 0} (p q : X → Bool) → ((x : X) → p x ≡ q x) → (xs : List X) → find p xs ≡ find q xs
find_agree p q same [] = refl
find_agree p q same (x ∷ xs) = λ j. cond (same x j) (Some x) (find_agree p q same xs j)

find_filter_by : {X : Type 0} (p : X → Bool) (x : X) (s t : Bool) (xs ys : List X) → p x ≡ t → (s ≡ false → t ≡ false) → find p ys ≡ find p xs
    → find p (cond s (x ∷ ys) ys) ≡ cond t (Some x) (find p xs)
find_filter_by p x true t xs ys e h g = (λ j. cond (e j) (Some x) (g j))
find_filter_by p x false t xs ys e h g = rw (h refl) g

-- items that do not pass may be left out
find_filter : {X : Type 0} (p q : X → Bool) → ((x : X) → q x ≡ false → p x ≡ false) → (xs : List X) → find p (filter q xs) ≡ find p xs
find_filter p q h [] = refl
find_filter p q h (x ∷ xs) = find_filter_by p x (q x) (p x) xs (filter q xs) refl (h x) (find_filter p q h xs)

not_false : (b : Bool) → not b ≡ false → b ≡ true
not_false true h = refl
not_false false h = absurd (true≢false h)

find_distinct_by : (p : List ℕ → Bool) (n : List ℕ) (t : Bool) (ds ns : List (List ℕ)) → p n ≡ t → find p ds ≡ find p ns
    → cond t (Some n) (find p (filter (λ m. not (bytes_eq n m)) ds)) ≡ cond t (Some n) (find p ns)
find_distinct_by p n true ds ns e h = refl
find_distinct_by p n false ds ns e h =
    find_filter p (λ m. not (bytes_eq n m)) (λ m g. ap p (sym ((bytes_eq-Decides n m).0 (not_false (bytes_eq n m) g))) ∙ e) ds ∙ h

-- the first name that passes is the first of the names each once
pub find_distinct : (p : List ℕ → Bool) (ns : List (List ℕ)) → find p (distinct ns) ≡ find p ns
find_distinct p [] = refl
find_distinct p (n ∷ ns) = find_distinct_by p n (p n) (distinct ns) ns refl (find_distinct p ns)
