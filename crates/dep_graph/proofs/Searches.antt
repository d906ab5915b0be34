-- A search adds what is used until nothing new comes.
use Rattle.std.proofs.Common.{true≢false, ap, ◌∙◌, sym, arith, append-nil, append_assoc, length-append, take_all, ◌≡◌, true, false, ℕ, suc, zero, ◌+◌, ◌<◌, ◌≤◌, ◌||◌, Bool, List, [], ◌∷◌, ◌++◌, take, length, get_or, nat_eq, refl}
use Rattle.std.proofs.lemmas.Bool.Decides.{nat_tests}
use Rattle.std.proofs.lemmas.Bool.{or_left, or_right}
use Rattle.indexmap.specs.IndexSet.{insert_all, insert_key}
use Rattle.dep_graph.specs.Nodes.{has}
use Rattle.dep_graph.specs.Reaching.{IsChain, Reaches, IsClosure}

-- ---- membership
pub or-false : (a : Bool) → a ≡ (a || false)
or-false true = refl
or-false false = refl

pub or-assoc : (a b c : Bool) → ((a || b) || c) ≡ (a || (b || c))
or-assoc true b c = refl
or-assoc false b c = refl

-- one of the two
pub or-cases : {P : Type 0} (a b : Bool) → (a || b) ≡ true → (a ≡ true → P) → (b ≡ true → P) → P
or-cases true b h l r = l refl
or-cases false b h l r = r h

pub both-there : (ids : List ℕ) (m n : ℕ) → has ids m ≡ true → has ids n ≡ true → (k : ℕ) → has (m ∷ n ∷ []) k ≡ true → has ids k ≡ true
both-there ids m n h t k q = or-cases (nat_eq k m) (nat_eq k n || false) q
    (λ e. let same : m ≡ k = grind (arith, nat_tests) in ap (has ids) (sym same) ∙ h)
    (λ r. or-cases (nat_eq k n) false r (λ e. let same : n ≡ k = grind (arith, nat_tests) in ap (has ids) (sym same) ∙ t) (λ f. absurd (true≢false (sym f))))

pub has-append : (xs ys : List ℕ) (n : ℕ) → has (xs ++ ys) n ≡ (has xs n || has ys n)
has-append [] ys n = refl
has-append (x ∷ xs) ys n = ap (λ b. nat_eq n x || b) (has-append xs ys n) ∙ sym (or-assoc (nat_eq n x) (has xs n) (has ys n))

-- a key that is there is not put in again
pub has-insert_key : (ks : List ℕ) (x n : ℕ) → has (insert_key nat_eq ks x) n ≡ (has ks n || nat_eq n x)
has-insert_key ks x n = by (has ks x) refl
  where
    same : (b : Bool) → has ks x ≡ true → nat_eq n x ≡ b → has ks n ≡ (has ks n || b)
    same true h q = let e : n ≡ x = grind (arith, nat_tests) in rw (e, h) refl
    same false h q = or-false (has ks n)

    by : (b : Bool) → has ks x ≡ b → has (insert_key nat_eq ks x) n ≡ (has ks n || nat_eq n x)
    by true q = rw q (same (nat_eq n x) q refl)
    by false q = rw q (has-append ks (x ∷ []) n ∙ ap (λ b. has ks n || b) (sym (or-false (nat_eq n x))))

pub has-insert_all : (ks xs : List ℕ) (n : ℕ) → has (insert_all nat_eq ks xs) n ≡ (has ks n || has xs n)
has-insert_all ks [] n = or-false (has ks n)
has-insert_all ks (x ∷ xs) n =
    has-insert_all (insert_key nat_eq ks x) xs n ∙ ap (λ b. b || has xs n) (has-insert_key ks x n) ∙ or-assoc (has ks n) (nat_eq n x) (has xs n)

-- ---- what was there stays in front
pub kept-insert_all : (ks xs : List ℕ) → (more : List ℕ) × (insert_all nat_eq ks xs ≡ ks ++ more)
kept-insert_all ks [] = ([], sym (append-nil ks))
kept-insert_all ks (x ∷ xs) = by (has ks x) refl (kept-insert_all ks xs) (kept-insert_all (ks ++ x ∷ []) xs)
  where
    by : (b : Bool) → has ks x ≡ b → (more : List ℕ) × (insert_all nat_eq ks xs ≡ ks ++ more) → (more : List ℕ) × (insert_all nat_eq (ks ++ x ∷ []) xs ≡ (ks ++ x ∷ []) ++ more)
        → (more : List ℕ) × (insert_all nat_eq (insert_key nat_eq ks x) xs ≡ ks ++ more)
    by true q there new = rw q there
    by false q there new = rw q (x ∷ new.0, new.1 ∙ append_assoc ks (x ∷ []) new.0)

-- one more is done
has-take : (ks more : List ℕ) (at m : ℕ) → at < length ks → has (take (suc at) (ks ++ more)) m ≡ (has (take at ks) m || nat_eq m (get_or ks at 0))
has-take [] more at m h = absurd (omega (arith, h))
has-take (k ∷ ks) more zero m h = sym (or-false (nat_eq m k))
has-take (k ∷ ks) more (suc at) m h = ap (λ b. nat_eq m k || b) (has-take ks more at m (omega (arith, h))) ∙ sym (or-assoc (nat_eq m k) (has (take at ks) m) (nat_eq m (get_or ks at 0)))

pub has-get_or : (ks : List ℕ) (at : ℕ) → at < length ks → has ks (get_or ks at 0) ≡ true
has-get_or [] at h = absurd (omega (arith, h))
has-get_or (k ∷ ks) zero h = let e : nat_eq k k ≡ true = grind (arith, nat_tests) in rw e refl
has-get_or (k ∷ ks) (suc at) h = or_right (nat_eq (get_or ks at 0) k) (has ks (get_or ks at 0)) (has-get_or ks at (omega (arith, h)))

-- ---- chains
pub chain-more : (next : ℕ → List ℕ) (ms : List ℕ) (y m n : ℕ) → IsChain next y ms m → has (next m) n ≡ true → IsChain next y (ms ++ n ∷ []) n
chain-more next [] y m n same h = (rw same h, refl)
chain-more next (k ∷ ms) y m n c h = (c.0, chain-more next ms k m n c.1 h)

pub closed : (next : ℕ → List ℕ) (found : List ℕ) → ((m n : ℕ) → has found m ≡ true → has (next m) n ≡ true → has found n ≡ true)
    → (ms : List ℕ) (y n : ℕ) → has found y ≡ true → IsChain next y ms n → has found n ≡ true
closed next found step [] y n h c = rw c at h
closed next found step (m ∷ ms) y n h c = closed next found step ms m n (step y m h c.0) c.1

-- ---- the search
-- what the first `at` of the keys use is found
pub record IsSearched (next : ℕ → List ℕ) (y : ℕ) (ids : List ℕ) (at : ℕ) (keys : List ℕ) : Type 0 where
  pub start : has keys y ≡ true
  pub place : at ≤ length keys
  pub reached : (n : ℕ) → has keys n ≡ true → Reaches next y n
  pub within : (n : ℕ) → has keys n ≡ true → has ids n ≡ true
  pub done : (m n : ℕ) → has (take at keys) m ≡ true → has (next m) n ≡ true → has keys n ≡ true

pub search-start : (next : ℕ → List ℕ) (y : ℕ) (ids : List ℕ) → has ids y ≡ true → IsSearched next y ids 0 (y ∷ [])
search-start next y ids there =
    let same : nat_eq y y ≡ true = grind (arith, nat_tests) in
    let one : (n : ℕ) → has (y ∷ []) n ≡ true → n ≡ y = λ n h. or-cases (nat_eq n y) false h (λ t. grind (arith, nat_tests)) (λ f. absurd (true≢false (sym f))) in
    record {
      start = rw same refl;
      place = omega arith;
      reached = λ n h. record { chain = []; is = sym (one n h) };
      within = λ n h. rw (one n h) there;
      done = λ m n h. absurd (true≢false (sym h));
    }

pub search-step : (next : ℕ → List ℕ) (y : ℕ) (ids : List ℕ) (at : ℕ) (keys : List ℕ) → IsSearched next y ids at keys → at < length keys
    → ((n : ℕ) → has (next (get_or keys at 0)) n ≡ true → has ids n ≡ true)
    → IsSearched next y ids (suc at) (insert_all nat_eq keys (next (get_or keys at 0)))
search-step next y ids at keys s low inside =
    let here : ℕ = get_or keys at 0 in
    let new : List ℕ = insert_all nat_eq keys (next here) in
    let more = kept-insert_all keys (next here) in
    let long : length new ≡ length keys + length more.0 = ap length more.1 ∙ length-append keys more.0 in
    let split : (n : ℕ) → has new n ≡ (has keys n || has (next here) n) = has-insert_all keys (next here) in
    let old : (n : ℕ) → has keys n ≡ true → has new n ≡ true = λ n h. split n ∙ or_left (has keys n) (has (next here) n) h in
    let used : (n : ℕ) → has (next here) n ≡ true → has new n ≡ true = λ n h. split n ∙ or_right (has keys n) (has (next here) n) h in
    let at_here : Reaches next y here = s.reached here (has-get_or keys at low) in
    record {
      start = old y s.start;
      place = omega (arith, low, long);
      reached = λ n h. or-cases (has keys n) (has (next here) n) (sym (split n) ∙ h) (s.reached n)
          (λ t. record { chain = at_here.chain ++ n ∷ []; is = chain-more next at_here.chain y here n at_here.is t });
      within = λ n h. or-cases (has keys n) (has (next here) n) (sym (split n) ∙ h) (s.within n) (inside n);
      done = λ m n h t. or-cases (has (take at keys) m) (nat_eq m here) (sym (has-take keys more.0 at m low) ∙ ap (λ l. has (take (suc at) l) m) (sym more.1) ∙ h)
          (λ q. old n (s.done m n q t))
          (λ q. let e : m ≡ here = grind (arith, nat_tests) in used n (ap (λ k. has (next k) n) (sym e) ∙ t));
    }

pub searched : (next : ℕ → List ℕ) (y : ℕ) (ids keys : List ℕ) → IsSearched next y ids (length keys) keys → IsClosure next y keys
searched next y ids keys s = record {
  reached = s.reached;
  whole = λ n r. closed next keys (λ m k h. s.done m k (ap (λ l. has l m) (take_all (length keys) keys (omega arith)) ∙ h)) r.chain y n s.start r.is;
}
