-- Nodes as entries of a map by their ids.
use Rattle.std.proofs.Common.{ap, sym, ◌∙◌, ◌≡◌, ◌<◌, ◌+◌, true, false, true≢false, ℕ, zero, suc, Bool, List, [], ◌∷◌, ◌++◌, map, length, insert, remove, take, slice_get, position, arith, nat_eq, refl, None, Some, Option, cond, is_some, nat_lt, if◌then◌else◌}
use Rattle.std.specs.Option.{IsSome, option_map_or}
use Rattle.std.specs.Map.{keys_of, lookup, set_value}
use Rattle.std.specs.List.{position_or_len}
use Rattle.std.specs.Cmp.{nat_eq_equiv}
use Rattle.std.proofs.lemmas.Map.{none_passes_from_lookup, lookup-insert, lookup-set_value}
use Rattle.std.proofs.lemmas.Bool.Decides.{nat_tests}
use Rattle.indexmap.specs.IndexMap.{insert_entry, move_index}
use Rattle.indexmap.proofs.MapLemmas.{Missing-position, Found-position, some_index, insert_entry-absent}
use Rattle.dep_graph.specs.Nodes.{has, ids_of, uses_in, users_in}
use Rattle.dep_graph.specs.Views.{node_of, nodes_of, users_at, IsGraph}
use Rattle.dep_graph.specs.declared.graph.Edges.{Edges}

pub ids : (es : List (ℕ × Edges)) → keys_of es ≡ ids_of (nodes_of es)
ids [] = refl
ids (e ∷ es) = ap (λ ks. e.0 ∷ ks) (ids es)

pub there : (es : List (ℕ × Edges)) (n : ℕ) → has (ids_of (nodes_of es)) n ≡ true → IsSome (lookup (nat_eq n) es)
there [] n h = h
there (e ∷ es) n h = by (nat_eq n e.0) refl (there es n)
  where
    by : (b : Bool) → nat_eq n e.0 ≡ b → (has (ids_of (nodes_of es)) n ≡ true → IsSome (lookup (nat_eq n) es)) → IsSome (lookup (nat_eq n) (e ∷ es))
    by true q more = rw q refl
    by false q more = rw q (more (rw q at h))

pub uses-lookup : (es : List (ℕ × Edges)) (n : ℕ) (node : Edges) → lookup (nat_eq n) es ≡ Some node → node.uses.items ≡ uses_in (nodes_of es) n
uses-lookup [] n node h = cc h
uses-lookup (e ∷ es) n node h = by (nat_eq n e.0) refl (uses-lookup es n node)
  where
    by : (b : Bool) → nat_eq n e.0 ≡ b → (lookup (nat_eq n) es ≡ Some node → node.uses.items ≡ uses_in (nodes_of es) n) → node.uses.items ≡ uses_in (nodes_of (e ∷ es)) n
    by true q more = rw q (let same : e.1 ≡ node = cc (rw q at h) in ap (λ node. node.uses.items) (sym same))
    by false q more = rw q (more (rw q at h))

pub users-lookup : (es : List (ℕ × Edges)) (n : ℕ) (edges : Edges) → lookup (nat_eq n) es ≡ Some edges → edges.users.items ≡ users_at es n
users-lookup es n edges h = rw h refl

pub absent : (es : List (ℕ × Edges)) (n : ℕ) → has (ids_of (nodes_of es)) n ≡ false → lookup (nat_eq n) es ≡ None
absent [] n h = refl
absent (e ∷ es) n h = by (nat_eq n e.0) refl (absent es n)
  where
    by : (b : Bool) → nat_eq n e.0 ≡ b → (has (ids_of (nodes_of es)) n ≡ false → lookup (nat_eq n) es ≡ None) → lookup (nat_eq n) (e ∷ es) ≡ None
    by true q more = absurd (true≢false (rw q at h))
    by false q more = rw q (more (rw q at h))

-- ---- a new entry takes its place
no-some : (o : Option ℕ) → is_some o ≡ false → o ≡ None
no-some None h = refl
no-some (Some k) h = absurd (true≢false h)

pub no-place : (es : List (ℕ × Edges)) (n : ℕ) → has (ids_of (nodes_of es)) n ≡ false → position (nat_eq n) (keys_of es) ≡ None
no-place es n h = no-some (position (nat_eq n) (keys_of es)) (some_index (nat_eq n) es ∙ ap is_some (absent es n h))

last-is : {X : Type 0} (xs : List X) (x : X) → slice_get (xs ++ x ∷ []) (length xs) ≡ Some x
last-is [] x = refl
last-is (y ∷ xs) x = last-is xs x

last-gone : {X : Type 0} (xs : List X) (x : X) → remove (xs ++ x ∷ []) (length xs) ≡ xs
last-gone [] x = refl
last-gone (y ∷ xs) x = ap (λ l. y ∷ l) (last-gone xs x)

pub placed : (es : List (ℕ × Edges)) (at id : ℕ) (edges : Edges) → has (ids_of (nodes_of es)) id ≡ false
    → move_index (insert_entry nat_eq es id edges) (position_or_len (nat_eq id) (keys_of es)) at ≡ insert es at (id, edges)
placed es at id edges new =
    let miss = Missing-position (nat_eq id) es (no-place es id new) in
    rw (miss.or_len, insert_entry-absent nat_eq id edges es miss.absent, last-is es (id, edges), last-gone es (id, edges)) refl

-- a new entry without users changes no list of users
pub users-placed : (es : List (ℕ × Edges)) (at id : ℕ) (edges : Edges) → has (ids_of (nodes_of es)) id ≡ false → edges.users.items ≡ []
    → (n : ℕ) → users_at (insert es at (id, edges)) n ≡ users_at es n
users-placed es at id edges new fresh n =
    let none = absent es id new in
    ap (λ o. option_map_or (λ edges. edges.users.items) o []) (lookup-insert nat_eq_equiv id edges n es at (none_passes_from_lookup (nat_eq id) es none)) ∙ by (nat_eq id n) refl
  where
    by : (b : Bool) → nat_eq id n ≡ b → option_map_or (λ edges. edges.users.items) (cond (nat_eq id n) (Some edges) (lookup (nat_eq n) es)) [] ≡ users_at es n
    by true q = let same : n ≡ id = grind (arith, nat_tests) in rw q (fresh ∙ sym (ap (users_at es) same ∙ ap (λ o. option_map_or (λ edges. edges.users.items) o []) (absent es id new)))
    by false q = rw q refl

-- the kept users are those that use
pub users-kept : (es : List (ℕ × Edges)) → IsGraph es → (n : ℕ) (edges : Edges) → lookup (nat_eq n) es ≡ Some edges → edges.users.items ≡ users_in (nodes_of es) n
users-kept es graph n edges h = users-lookup es n edges h ∙ graph.users n

-- ---- a written list
pub nodes-written : (es : List (ℕ × Edges)) (n : ℕ) (edges w : Edges) → lookup (nat_eq n) es ≡ Some edges → w.uses.items ≡ edges.uses.items
    → nodes_of (set_value (nat_eq n) es w) ≡ nodes_of es
nodes-written [] n edges w h same = refl
nodes-written (e ∷ es) n edges w h same = by (nat_eq n e.0) refl (nodes-written es n edges w)
  where
    by : (b : Bool) → nat_eq n e.0 ≡ b → (lookup (nat_eq n) es ≡ Some edges → w.uses.items ≡ edges.uses.items → nodes_of (set_value (nat_eq n) es w) ≡ nodes_of es)
        → nodes_of (set_value (nat_eq n) (e ∷ es) w) ≡ nodes_of (e ∷ es)
    by true q more = rw q (let found : e.1 ≡ edges = cc (rw q at h) in ap (λ us. record { id = e.0; uses = us } ∷ nodes_of es) (same ∙ sym (ap (λ edges. edges.uses.items) found)))
    by false q more = rw q (ap (λ l. node_of e ∷ l) (more (rw q at h) same))

pub users-written : (es : List (ℕ × Edges)) (n : ℕ) (w : Edges) → has (ids_of (nodes_of es)) n ≡ true
    → (m : ℕ) → users_at (set_value (nat_eq n) es w) m ≡ (if nat_eq m n then w.users.items else users_at es m)
users-written es n w h m =
    ap (λ o. option_map_or (λ edges. edges.users.items) o []) (lookup-set_value nat_eq_equiv (nat_eq n) (λ x y p. turn x y p) m w es (there es n h)) ∙ by (nat_eq n m) refl
  where
    turn : (x y : ℕ) → nat_eq n x ≡ true → nat_eq n y ≡ nat_eq x y
    turn x y p = let same : n ≡ x = grind (arith, nat_tests) in ap (λ k. nat_eq k y) same

    by : (b : Bool) → nat_eq n m ≡ b → option_map_or (λ edges. edges.users.items) (cond (nat_eq n m) (Some w) (lookup (nat_eq m) es)) [] ≡ (if nat_eq m n then w.users.items else users_at es m)
    by true q = let other : nat_eq m n ≡ true = grind (arith, nat_tests) in rw (q, other) refl
    by false q = let other : nat_eq m n ≡ false = grind (arith, nat_tests) in rw (q, other) refl

-- ---- the place of a node
gone : (es : List (ℕ × Edges)) (n at : ℕ) → lookup (nat_eq n) es ≡ None → false ≡ has (ids_of (take at (nodes_of es))) n
gone es n zero h = refl
gone [] n (suc at) h = refl
gone (e ∷ es) n (suc at) h = by (nat_eq n e.0) refl (gone es n at)
  where
    by : (b : Bool) → nat_eq n e.0 ≡ b → (lookup (nat_eq n) es ≡ None → false ≡ has (ids_of (take at (nodes_of es))) n) → false ≡ has (ids_of (take (suc at) (nodes_of (e ∷ es)))) n
    by true q more = absurd (true≢false (ap is_some (rw q at h)))
    by false q more = rw q (more (rw q at h))

pub not-there : (es : List (ℕ × Edges)) (n at : ℕ) → position (nat_eq n) (keys_of es) ≡ None → false ≡ has (ids_of (take at (nodes_of es))) n
not-there es n at h = gone es n at (Missing-position (nat_eq n) es h).value

found-there : (es : List (ℕ × Edges)) (n place : ℕ) → position (nat_eq n) (keys_of es) ≡ Some place → (b : Bool) → has (ids_of (nodes_of es)) n ≡ b → has (ids_of (nodes_of es)) n ≡ true
found-there es n place h true q = q
found-there es n place h false q = absurd (true≢false (sym (ap is_some h) ∙ some_index (nat_eq n) es ∙ ap is_some (absent es n q)))

first-at : (es : List (ℕ × Edges)) (n at : ℕ) → has (ids_of (nodes_of es)) n ≡ true → nat_lt (position_or_len (nat_eq n) (keys_of es)) at ≡ has (ids_of (take at (nodes_of es))) n
first-at es n zero h = let none : nat_lt (position_or_len (nat_eq n) (keys_of es)) 0 ≡ false = grind (arith, nat_tests) in none
first-at [] n (suc at) h = absurd (true≢false (sym h))
first-at (e ∷ es) n (suc at) h = by (nat_eq n e.0) refl (first-at es n at)
  where
    first : (k : ℕ) → k ≡ 0 → nat_lt k (suc at) ≡ true
    first k z = grind (arith, nat_tests)

    one : (k : ℕ) → 1 + k ≡ suc k
    one k = omega arith

    less_by : (k : ℕ) (b : Bool) → nat_lt k at ≡ b → nat_lt (suc k) (suc at) ≡ b
    less_by k true q = grind (arith, nat_tests)
    less_by k false q = grind (arith, nat_tests)

    less : (k : ℕ) → nat_lt (suc k) (suc at) ≡ nat_lt k at
    less k = less_by k (nat_lt k at) refl

    by : (b : Bool) → nat_eq n e.0 ≡ b → (has (ids_of (nodes_of es)) n ≡ true → nat_lt (position_or_len (nat_eq n) (keys_of es)) at ≡ has (ids_of (take at (nodes_of es))) n)
        → nat_lt (position_or_len (nat_eq n) (keys_of (e ∷ es))) (suc at) ≡ has (ids_of (take (suc at) (nodes_of (e ∷ es)))) n
    by true q more = rw q (first 0 refl)
    by false q more = rw q (ap (λ j. nat_lt j (suc at)) (one (position_or_len (nat_eq n) (keys_of es))) ∙ less (position_or_len (nat_eq n) (keys_of es)) ∙ more (rw q at h))

pub there-at : (es : List (ℕ × Edges)) (n at place : ℕ) → position (nat_eq n) (keys_of es) ≡ Some place → nat_lt place at ≡ has (ids_of (take at (nodes_of es))) n
there-at es n at place h =
    ap (λ k. nat_lt k at) (sym (Found-position (nat_eq n) es place h).or_len) ∙ first-at es n at (found-there es n place h (has (ids_of (nodes_of es)) n) refl)
