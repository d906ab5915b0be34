-- A graph with one node more.
use Rattle.std.proofs.Common.{ap, sym, ◌∙◌, arith, ◌≡◌, ◌||◌, true, false, true≢false, ℕ, zero, suc, Bool, List, [], ◌∷◌, ◌++◌, map, length, insert, take, drop, nat_eq, refl, filter, ◌+◌, ◌≤◌, append-nil, length-append, take_all, if◌then◌else◌}
use Rattle.std.proofs.Math.Seq.{take-append_seam, drop-append_seam}
use Rattle.std.proofs.lemmas.List.{take-append-drop, map-append}
use Rattle.std.proofs.lemmas.List.Elements.{filter-append}
use Rattle.std.proofs.lemmas.Bool.Decides.{nat_tests}
use Rattle.std.proofs.lemmas.Bool.{or_left, or_right, or_parts}
use Rattle.smallvec.specs.SmallVec.{SmallVec}
use Rattle.indexmap.proofs.SetLemmas.{map-insert}
use Rattle.dep_graph.specs.Nodes.{Node, has, ids_of, uses_in, users_in, AreOnce, IsWhole}
use Rattle.dep_graph.specs.Views.{node_of, nodes_of, users_at, IsGraph, extended, written, given}
use Rattle.dep_graph.specs.declared.graph.Edges.{Edges}
use Rattle.dep_graph.proofs.Searches.{or-false, or-assoc}
use Rattle.dep_graph.proofs.Chains.{user-node}
use Rattle.dep_graph.proofs.Entries.{users-placed}

or-swap : (a b c : Bool) → (a || (b || c)) ≡ (b || (a || c))
or-swap true true c = refl
or-swap true false c = refl
or-swap false b c = refl

ids-more : (xs ys : List Node) (node : Node) (n : ℕ) → has (ids_of (xs ++ node ∷ ys)) n ≡ (nat_eq n node.id || has (ids_of (xs ++ ys)) n)
ids-more [] ys node n = refl
ids-more (x ∷ xs) ys node n = ap (λ b. nat_eq n x.id || b) (ids-more xs ys node n) ∙ or-swap (nat_eq n x.id) (nat_eq n node.id) (has (ids_of (xs ++ ys)) n)

uses-more : (xs ys : List Node) (node : Node) (n : ℕ) → has (ids_of (xs ++ ys)) node.id ≡ false
    → uses_in (xs ++ node ∷ ys) n ≡ (if nat_eq n node.id then node.uses else uses_in (xs ++ ys) n)
uses-more [] ys node n off = refl
uses-more (x ∷ xs) ys node n off = by (nat_eq n x.id) (nat_eq n node.id) refl refl (uses-more xs ys node n apart.1)
  where
    apart : (nat_eq node.id x.id ≡ false) × (has (ids_of (xs ++ ys)) node.id ≡ false)
    apart = or_parts (nat_eq node.id x.id) (has (ids_of (xs ++ ys)) node.id) off

    by : (a b : Bool) → nat_eq n x.id ≡ a → nat_eq n node.id ≡ b → uses_in (xs ++ node ∷ ys) n ≡ (if nat_eq n node.id then node.uses else uses_in (xs ++ ys) n)
        → uses_in (x ∷ xs ++ node ∷ ys) n ≡ (if nat_eq n node.id then node.uses else uses_in (x ∷ xs ++ ys) n)
    by true true q e more = let same : nat_eq node.id x.id ≡ true = grind (arith, nat_tests) in absurd (true≢false (sym same ∙ apart.0))
    by true false q e more = rw (q, e) refl
    by false b q e more = rw q more

users-split : (xs ys : List Node) (n : ℕ) → users_in (xs ++ ys) n ≡ users_in xs n ++ users_in ys n
users-split [] ys n = refl
users-split (x ∷ xs) ys n = by (has x.uses n) refl (users-split xs ys n)
  where
    by : (b : Bool) → has x.uses n ≡ b → users_in (xs ++ ys) n ≡ users_in xs n ++ users_in ys n → users_in (x ∷ xs ++ ys) n ≡ users_in (x ∷ xs) n ++ users_in ys n
    by true q more = rw q (ap (λ l. x.id ∷ l) more)
    by false q more = rw q more

users-more : (xs ys : List Node) (node : Node) (n : ℕ)
    → users_in (xs ++ node ∷ ys) n ≡ (if has node.uses n then insert (users_in (xs ++ ys) n) (length (users_in xs n)) node.id else users_in (xs ++ ys) n)
users-more xs ys node n = by (has node.uses n) refl
  where
    us : List ℕ
    us = users_in xs n

    vs : List ℕ
    vs = users_in ys n

    put : insert (us ++ vs) (length us) node.id ≡ us ++ node.id ∷ vs
    put = ap (λ l. l ++ node.id ∷ drop (length us) (us ++ vs)) (take-append_seam us vs) ∙ ap (λ l. us ++ node.id ∷ l) (drop-append_seam us vs)

    by : (b : Bool) → has node.uses n ≡ b
        → users_in (xs ++ node ∷ ys) n ≡ (if has node.uses n then insert (users_in (xs ++ ys) n) (length (users_in xs n)) node.id else users_in (xs ++ ys) n)
    by true q = users-split xs (node ∷ ys) n ∙ (rw q (sym (ap (λ l. insert l (length us) node.id) (users-split xs ys n) ∙ put)))
    by false q = users-split xs (node ∷ ys) n ∙ (rw q (sym (users-split xs ys n)))

once-more : (xs ys : List Node) (node : Node) → AreOnce (xs ++ ys) → has (ids_of (xs ++ ys)) node.id ≡ false → AreOnce (xs ++ node ∷ ys)
once-more [] ys node once off = (off, once)
once-more (x ∷ xs) ys node once off =
    let apart = or_parts (nat_eq node.id x.id) (has (ids_of (xs ++ ys)) node.id) off in
    let other : nat_eq x.id node.id ≡ false = grind (arith, nat_tests, apart.0) in
    (ids-more xs ys node x.id ∙ (rw other once.0), once-more xs ys node once.1 apart.1)

-- ---- at a place
module _ (nodes : List Node) (at : ℕ) (node : Node) (new : has (ids_of nodes) node.id ≡ false) where
  whole_list : take at nodes ++ drop at nodes ≡ nodes
  whole_list = take-append-drop at nodes

  off : has (ids_of (take at nodes ++ drop at nodes)) node.id ≡ false
  off = ap (λ l. has (ids_of l) node.id) whole_list ∙ new

  ids-insert : (n : ℕ) → has (ids_of (insert nodes at node)) n ≡ (nat_eq n node.id || has (ids_of nodes) n)
  ids-insert n = ids-more (take at nodes) (drop at nodes) node n ∙ ap (λ l. nat_eq n node.id || has (ids_of l) n) whole_list

  uses-insert : (n : ℕ) → uses_in (insert nodes at node) n ≡ (if nat_eq n node.id then node.uses else uses_in nodes n)
  uses-insert n = uses-more (take at nodes) (drop at nodes) node n off ∙ ap (λ l. if nat_eq n node.id then node.uses else uses_in l n) whole_list

  pub users-insert : (n : ℕ) → users_in (insert nodes at node) n ≡ (if has node.uses n then extended nodes at node.id n else users_in nodes n)
  users-insert n = users-more (take at nodes) (drop at nodes) node n
      ∙ ap (λ l. if has node.uses n then insert (users_in l n) (length (users_in (take at nodes) n)) node.id else users_in l n) whole_list

  pub once-insert : AreOnce nodes → AreOnce (insert nodes at node)
  once-insert once = once-more (take at nodes) (drop at nodes) node (rw whole_list once) off

  pub whole-insert : IsWhole nodes → ((n : ℕ) → has node.uses n ≡ true → has (ids_of nodes) n ≡ true) → IsWhole (insert nodes at node)
  whole-insert whole used = record { used = λ y n h. ids-insert n ∙ or_right (nat_eq n node.id) (has (ids_of nodes) n) (by (nat_eq y node.id) y n refl h) }
    where
      by : (b : Bool) (y n : ℕ) → nat_eq y node.id ≡ b → has (uses_in (insert nodes at node) y) n ≡ true → has (ids_of nodes) n ≡ true
      by true y n q h = used n (let t : has (if nat_eq y node.id then node.uses else uses_in nodes y) n ≡ true = ap (λ l. has l n) (sym (uses-insert y)) ∙ h in rw q at t)
      by false y n q h = whole.used y n (let t : has (if nat_eq y node.id then node.uses else uses_in nodes y) n ≡ true = ap (λ l. has l n) (sym (uses-insert y)) ∙ h in rw q at t)

-- ---- writing
pub given-map : (f kept : ℕ → List ℕ) (ns : List ℕ) (n : ℕ) → given (map (λ m. (m, f m)) ns) kept n ≡ (if has ns n then f n else kept n)
given-map f kept [] n = refl
given-map f kept (m ∷ ns) n = by (nat_eq n m) refl (given-map f kept ns n)
  where
    by : (b : Bool) → nat_eq n m ≡ b → given (map (λ m. (m, f m)) ns) kept n ≡ (if has ns n then f n else kept n)
        → given (map (λ m. (m, f m)) (m ∷ ns)) kept n ≡ (if has (m ∷ ns) n then f n else kept n)
    by true q more = let same : m ≡ n = grind (arith, nat_tests) in rw q (ap f same)
    by false q more = rw q more

pub given-last : (ws : List (ℕ × List ℕ)) (w : ℕ × List ℕ) (kept : ℕ → List ℕ) (n : ℕ) → given (ws ++ w ∷ []) kept n ≡ given ws (λ m. if nat_eq m w.0 then w.1 else kept m) n
given-last [] w kept n = refl
given-last (v ∷ ws) w kept n = ap (λ l. if nat_eq n v.0 then v.1 else l) (given-last ws w kept n)

pub given-same : (ws : List (ℕ × List ℕ)) (f g : ℕ → List ℕ) → ((n : ℕ) → f n ≡ g n) → (n : ℕ) → given ws f n ≡ given ws g n
given-same [] f g same n = same n
given-same (v ∷ ws) f g same n = ap (λ l. if nat_eq n v.0 then v.1 else l) (given-same ws f g same n)

-- the entries with a new one in its place, and the lists of users written
pub record IsAdded (es : List (ℕ × Edges)) (at id : ℕ) (edges : Edges) (after : List (ℕ × Edges)) : Type 0 where
  pub nodes : nodes_of after ≡ nodes_of (insert es at (id, edges))
  pub users : (n : ℕ) → users_at after n ≡ given (map (λ m. (m, extended (nodes_of es) at id m)) edges.uses.items) (users_at (insert es at (id, edges))) n

pub added-nodes : (es : List (ℕ × Edges)) (at id : ℕ) (edges : Edges) (after : List (ℕ × Edges)) → IsAdded es at id edges after
    → nodes_of after ≡ insert (nodes_of es) at (node_of (id, edges))
added-nodes es at id edges after is = is.nodes ∙ map-insert node_of es at (id, edges)

pub added : (es : List (ℕ × Edges)) (at id : ℕ) (edges : Edges) (after : List (ℕ × Edges)) → IsGraph es → has (ids_of (nodes_of es)) id ≡ false
    → ((n : ℕ) → has edges.uses.items n ≡ true → has (ids_of (nodes_of es)) n ≡ true) → edges.users.items ≡ [] → IsAdded es at id edges after → IsGraph after
added es at id edges after graph new used fresh is =
    let same = added-nodes es at id edges after is in
    let uses : List ℕ = edges.uses.items in
    let old : (n : ℕ) → users_at (insert es at (id, edges)) n ≡ users_in (nodes_of es) n = λ n. users-placed es at id edges new fresh n ∙ graph.users n in
    record {
      once = rw same (once-insert (nodes_of es) at (node_of (id, edges)) new graph.once);
      whole = rw same (whole-insert (nodes_of es) at (node_of (id, edges)) new graph.whole used);
      users = λ n. is.users n ∙ given-map (extended (nodes_of es) at id) (users_at (insert es at (id, edges))) uses n
          ∙ ap (λ l. if has uses n then extended (nodes_of es) at id n else l) (old n)
          ∙ sym (ap (λ l. users_in l n) same ∙ users-insert (nodes_of es) at (node_of (id, edges)) new n);
    }

pub record IsWriting (start es : List (ℕ × Edges)) (all ws : List (ℕ × SmallVec ℕ)) : Type 0 where
  pub nodes : nodes_of es ≡ nodes_of start
  pub users : (n : ℕ) → given (map written ws) (users_at es) n ≡ given (map written all) (users_at start) n
  pub there : (n : ℕ) → has (map (λ list. list.0) ws) n ≡ true → has (ids_of (nodes_of start)) n ≡ true

firsts : (ws : List (ℕ × SmallVec ℕ)) (w : ℕ × SmallVec ℕ) (n : ℕ) → has (map (λ list. list.0) (ws ++ w ∷ [])) n ≡ (has (map (λ list. list.0) ws) n || nat_eq n w.0)
firsts [] w n = sym (or-false (nat_eq n w.0))
firsts (v ∷ ws) w n = ap (λ b. nat_eq n v.0 || b) (firsts ws w n) ∙ sym (or-assoc (nat_eq n v.0) (has (map (λ list. list.0) ws) n) (nat_eq n w.0))

pub last-there : (start es : List (ℕ × Edges)) (all ws : List (ℕ × SmallVec ℕ)) (w : ℕ × SmallVec ℕ) → IsWriting start es all (ws ++ w ∷ [])
    → has (ids_of (nodes_of es)) w.0 ≡ true
last-there start es all ws w is =
    let same : nat_eq w.0 w.0 ≡ true = grind (arith, nat_tests) in
    ap (λ l. has (ids_of l) w.0) is.nodes ∙ is.there w.0 (firsts ws w w.0 ∙ or_right (has (map (λ list. list.0) ws) w.0) (nat_eq w.0 w.0) same)

pub writing-step : (start es new : List (ℕ × Edges)) (all ws : List (ℕ × SmallVec ℕ)) (w : ℕ × SmallVec ℕ) → IsWriting start es all (ws ++ w ∷ [])
    → nodes_of new ≡ nodes_of es → ((n : ℕ) → users_at new n ≡ (if nat_eq n w.0 then w.1.items else users_at es n)) → IsWriting start new all ws
writing-step start es new all ws w is nodes users = record {
  nodes = nodes ∙ is.nodes;
  users = λ n. given-same (map written ws) (users_at new) (λ m. if nat_eq m w.0 then w.1.items else users_at es m) users n
      ∙ sym (given-last (map written ws) (written w) (users_at es) n) ∙ ap (λ l. given l (users_at es) n) (sym (map-append written ws (w ∷ []))) ∙ is.users n;
  there = λ n h. is.there n (firsts ws w n ∙ or_left (has (map (λ list. list.0) ws) n) (nat_eq n w.0) h);
}

-- ---- those before a place
apart : (xs ys : List Node) → AreOnce (xs ++ ys) → (m : ℕ) → has (ids_of ys) m ≡ true → has (ids_of xs) m ≡ false
apart [] ys once m h = refl
apart (x ∷ xs) ys once m h = by (nat_eq m x.id) refl (apart xs ys once.1 m h)
  where
    later : (zs : List Node) (k : ℕ) → has (ids_of ys) k ≡ true → has (ids_of (zs ++ ys)) k ≡ true
    later [] k t = t
    later (z ∷ zs) k t = or_right (nat_eq k z.id) (has (ids_of (zs ++ ys)) k) (later zs k t)

    by : (b : Bool) → nat_eq m x.id ≡ b → has (ids_of xs) m ≡ false → has (ids_of (x ∷ xs)) m ≡ false
    by true q more = let same : m ≡ x.id = grind (arith, nat_tests) in absurd (true≢false (sym (ap (λ k. has (ids_of (xs ++ ys)) k) (sym same) ∙ later xs m h) ∙ once.0))
    by false q more = rw q more

all-pass : (p : ℕ → Bool) (ns : List ℕ) → ((m : ℕ) → has ns m ≡ true → p m ≡ true) → filter p ns ≡ ns
all-pass p [] h = refl
all-pass p (n ∷ ns) h =
    let first : p n ≡ true = h n (let e : nat_eq n n ≡ true = grind (arith, nat_tests) in rw e refl) in
    rw first (ap (λ l. n ∷ l) (all-pass p ns (λ m t. h m (or_right (nat_eq m n) (has ns m) t))))

none-pass : (p : ℕ → Bool) (ns : List ℕ) → ((m : ℕ) → has ns m ≡ true → p m ≡ false) → filter p ns ≡ []
none-pass p [] h = refl
none-pass p (n ∷ ns) h =
    let first : p n ≡ false = h n (let e : nat_eq n n ≡ true = grind (arith, nat_tests) in rw e refl) in
    rw first (none-pass p ns (λ m t. h m (or_right (nat_eq m n) (has ns m) t)))

users-first : (xs ys : List Node) → AreOnce (xs ++ ys) → (n : ℕ) → filter (has (ids_of xs)) (users_in (xs ++ ys) n) ≡ users_in xs n
users-first xs ys once n =
    ap (filter (has (ids_of xs))) (users-split xs ys n) ∙ filter-append (has (ids_of xs)) (users_in xs n) (users_in ys n)
    ∙ ap (λ l. l ++ filter (has (ids_of xs)) (users_in ys n)) (all-pass (has (ids_of xs)) (users_in xs n) (λ m t. user-node xs m n t))
    ∙ ap (λ l. users_in xs n ++ l) (none-pass (has (ids_of xs)) (users_in ys n) (λ m t. apart xs ys once m (user-node ys m n t)))
    ∙ append-nil (users_in xs n)

pub users-before : (nodes : List Node) (at : ℕ) → AreOnce nodes → (n : ℕ) → filter (has (ids_of (take at nodes))) (users_in nodes n) ≡ users_in (take at nodes) n
users-before nodes at once n =
    ap (λ l. filter (has (ids_of (take at nodes))) (users_in l n)) (sym (take-append-drop at nodes))
    ∙ users-first (take at nodes) (drop at nodes) (rw (take-append-drop at nodes) once) n

pub few-before : (nodes : List Node) (at n : ℕ) → length (users_in (take at nodes) n) ≤ length (users_in nodes n)
few-before nodes at n =
    let split : length (users_in nodes n) ≡ length (users_in (take at nodes) n) + length (users_in (drop at nodes) n)
    = ap (λ l. length (users_in l n)) (sym (take-append-drop at nodes)) ∙ ap length (users-split (take at nodes) (drop at nodes) n) ∙ length-append (users_in (take at nodes) n) (users_in (drop at nodes) n) in
    omega (arith, split)

pub all-before : (nodes : List Node) (at n : ℕ) → at ≡ length nodes → length (users_in nodes n) ≡ length (users_in (take at nodes) n)
all-before nodes at n h = ap (λ l. length (users_in l n)) (sym (take_all at nodes (omega (arith, h))))

-- ---- as the code goes about it
past : (ns : List ℕ) (i : ℕ) → length ns ≤ i → drop i ns ≡ []
past [] zero h = refl
past [] (suc i) h = refl
past (n ∷ ns) zero h = absurd (omega (arith, h))
past (n ∷ ns) (suc i) h = past ns i (omega (arith, h))

pub counted : (p : ℕ → Bool) (ns : List ℕ) (i count total : ℕ) → length ns ≤ i → count + length (filter p (drop i ns)) ≡ total → count ≡ total
counted p ns i count total h is =
    let none : length (filter p (drop i ns)) ≡ 0 = ap (λ l. length (filter p l)) (past ns i h) in
    omega (arith, none, is)

firsts-written : (ws : List (ℕ × SmallVec ℕ)) → map (λ w. w.0) (map written ws) ≡ map (λ list. list.0) ws
firsts-written [] = refl
firsts-written (w ∷ ws) = ap (λ l. w.0 ∷ l) (firsts-written ws)

firsts-of : (f : ℕ → List ℕ) (ns : List ℕ) → map (λ w. w.0) (map {A = ℕ} {B = ℕ × List ℕ} (λ n. (n, f n)) ns) ≡ ns
firsts-of f [] = refl
firsts-of f (n ∷ ns) = ap (λ l. n ∷ l) (firsts-of f ns)

pub whose : (f : ℕ → List ℕ) (ws : List (ℕ × SmallVec ℕ)) (ns : List ℕ) → map written ws ≡ map {A = ℕ} (λ n. (n, f n)) ns → map (λ list. list.0) ws ≡ ns
whose f ws ns same = sym (firsts-written ws) ∙ ap (map (λ w. w.0)) same ∙ firsts-of f ns

pub ids-placed : (es : List (ℕ × Edges)) (at id : ℕ) (edges : Edges) → has (ids_of (nodes_of es)) id ≡ false
    → (n : ℕ) → has (ids_of (nodes_of es)) n ≡ true → has (ids_of (nodes_of (insert es at (id, edges)))) n ≡ true
ids-placed es at id edges new n h =
    ap (λ l. has (ids_of l) n) (map-insert node_of es at (id, edges)) ∙ ids-insert (nodes_of es) at (node_of (id, edges)) new n
    ∙ or_right (nat_eq n id) (has (ids_of (nodes_of es)) n) h

pub is-added : (es : List (ℕ × Edges)) (at id : ℕ) (edges : Edges) (shifted after : List (ℕ × Edges)) (ws : List (ℕ × SmallVec ℕ)) (self : List Node) (uses : List ℕ)
    → nodes_of es ≡ self → edges.uses.items ≡ uses → shifted ≡ insert es at (id, edges) → map written ws ≡ map {A = ℕ} (λ n. (n, extended self at id n)) uses
    → nodes_of after ≡ nodes_of shifted → ((n : ℕ) → users_at after n ≡ given (map written ws) (users_at shifted) n) → IsAdded es at id edges after
is-added es at id edges shifted after ws self uses view used put lists nodes users =
    let same : map written ws ≡ map {A = ℕ} (λ m. (m, extended (nodes_of es) at id m)) edges.uses.items =
    lists ∙ ap (λ l. map {A = ℕ} (λ m. (m, extended l at id m)) uses) (sym view) ∙ ap (λ us. map {A = ℕ} (λ m. (m, extended (nodes_of es) at id m)) us) (sym used) in
    record {
      nodes = nodes ∙ ap nodes_of put;
      users = λ n. users n ∙ ap (λ l. given l (users_at shifted) n) same ∙ ap (λ l. given (map {A = ℕ} (λ m. (m, extended (nodes_of es) at id m)) edges.uses.items) (users_at l) n) put;
    }
