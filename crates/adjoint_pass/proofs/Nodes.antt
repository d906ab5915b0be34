-- Quantities by numbers as nodes: what depends on what is what the graph says, and the cone is the graph's cone.
use Rattle.std.specs.Prelude.{◌≡◌, ℕ, zero, suc, Bool, true, false, ◌||◌, nat_eq, if◌then◌else◌, List, [], ◌∷◌, ◌++◌, map, filter, reverse, drop, get_or, length, ◌<◌, is_some, Option, Some, None, ◌⊎◌, refl}
use Rattle.std.specs.List.{list_any, AllByRecursion}
use Rattle.std.proofs.Common.{arith, sym, ◌∙◌, ap, subst, inl, inr}
use Rattle.std.proofs.lemmas.List.Folds.{list_any_at}
use Rattle.std.proofs.lemmas.Bool.{true≢false, and_parts, or_cases, or_left, or_right}
use Rattle.dep_graph.proofs.Orders.{same-when, has-filter, has-reverse, filter-same}
use Rattle.dep_graph.proofs.Searches.{chain-more}
use Rattle.indexmap.proofs.ReorderLemmas.{map-reverse}
use Rattle.fixed_interval.specs.Interval.{Interval}
use Rattle.dep_graph.specs.Nodes.{Node as GraphNode, has, ids_of, uses_in, users_in, AreOnce}
use Rattle.dep_graph.specs.Reaching.{IsChain, DependsOn, IsCone}
use Rattle.value_cache.specs.Quantities.{Body, Quantity}
use Rattle.value_cache.specs.Rules.{Bodies, before, numbered, IsGraphOf}
use Rattle.value_cache.proofs.Rules.{has-first}
use Rattle.value_cache.proofs.Graphs.{graph-once}
use Rattle.adjoint_pass.specs.Sweep.{Node, users, is_in_cone_through, is_in_cone}
use Rattle.adjoint_pass.specs.Sensitivities.{node_of, span_at, nodes_of, depends_on, cone_of}
use Rattle.adjoint_pass.specs.Gathering.{part_in}
use Rattle.adjoint_pass.proofs.Lists.{filter-map}
use Rattle.adjoint_pass.proofs.Turns.{AreFalling}
use Rattle.adjoint_pass.proofs.Equations.{depends_on-closed, cone_of-falling}
use Rattle.adjoint_pass.proofs.Numbers.{same_numbers, itself, equal, has-next, filter-reverse, AreApart}
use Rattle.adjoint_pass.proofs.Rows.{uses_at, uses_at-has}

-- ---- no two nodes are the same
apart_ids : (nodes : List GraphNode) → AreOnce nodes → AreApart (ids_of nodes)
apart_ids [] once = tt
apart_ids (node ∷ nodes) once = (once.0, apart_ids nodes once.1)

pub ids-apart : (nodes : List GraphNode) (bodies : Bodies) → IsGraphOf nodes bodies → AreApart (ids_of nodes)
ids-apart nodes bodies graph = apart_ids nodes (graph-once nodes bodies graph)

-- ---- users are the nodes that use it
users-filter : (nodes : List GraphNode) → AreOnce nodes → (n : ℕ) → users_in nodes n ≡ filter (λ m. has (uses_in nodes m) n) (ids_of nodes)
users-filter [] once n = refl
users-filter (node ∷ nodes) once n = by (has node.uses n) refl (users-filter nodes once.1 n) where
  other : (m : ℕ) → has (ids_of nodes) m ≡ true → (b : Bool) → nat_eq m node.id ≡ b → has (uses_in nodes m) n ≡ has (if b then node.uses else uses_in nodes m) n
  other m h true e = absurd (true≢false (sym h ∙ ap (has (ids_of nodes)) (equal m node.id e) ∙ once.0))
  other m h false e = refl

  others : filter (λ m. has (uses_in nodes m) n) (ids_of nodes) ≡ filter (λ m. has (uses_in (node ∷ nodes) m) n) (ids_of nodes)
  others =
      filter-same (λ m. has (uses_in nodes m) n) (λ m. has (uses_in (node ∷ nodes) m) n) (ids_of nodes)
      (λ m h. other m h (nat_eq m node.id) refl)

  first : (b : Bool) → nat_eq node.id node.id ≡ b → has node.uses n ≡ has (if b then node.uses else uses_in nodes node.id) n
  first true e = refl
  first false e = absurd (true≢false (sym (itself node.id) ∙ e))

  by : (b : Bool) → has node.uses n ≡ b → users_in nodes n ≡ filter (λ m. has (uses_in nodes m) n) (ids_of nodes)
      → (if b then node.id ∷ users_in nodes n else users_in nodes n) ≡ filter (λ m. has (uses_in (node ∷ nodes) m) n) (ids_of (node ∷ nodes))
  by true e rest =
      let yes : has (uses_in (node ∷ nodes) node.id) n ≡ true = sym (first (nat_eq node.id node.id) refl) ∙ e in
      rw yes (ap (λ l. node.id ∷ l) (rest ∙ others))
  by false e rest =
      let no : has (uses_in (node ∷ nodes) node.id) n ≡ false = sym (first (nat_eq node.id node.id) refl) ∙ e in
      rw no (rest ∙ others)

-- the last first, by the bodies
pub users-back : (nodes : List GraphNode) (bodies : Bodies) → IsGraphOf nodes bodies → (n : ℕ)
    → reverse (users_in nodes n) ≡ filter (λ m. uses_at (bodies m) n) (reverse (ids_of nodes))
users-back nodes bodies graph n =
    ap reverse (users-filter nodes (graph-once nodes bodies graph) n)
    ∙ sym (filter-reverse (λ m. has (uses_in nodes m) n) (ids_of nodes))
    ∙ filter-same (λ m. has (uses_in nodes m) n) (λ m. uses_at (bodies m) n) (reverse (ids_of nodes))
    (λ m h. graph.uses m n ∙ sym (uses_at-has (bodies m) n))

pub users_placed : (nodes : List GraphNode) (bodies : Bodies) → IsGraphOf nodes bodies → (n m : ℕ) → has (users_in nodes n) m ≡ true → is_some (bodies m) ≡ true
users_placed nodes bodies graph n m h =
    let there = sym (has-filter (λ k. has (uses_in nodes k) n) (ids_of nodes) m)
    ∙ ap (λ l. has l m) (sym (users-filter nodes (graph-once nodes bodies graph) n)) ∙ h in
    sym (graph.placed m) ∙ (and_parts (has (ids_of nodes) m) (has (uses_in nodes m) n) there).0

-- ---- the nodes by their numbers
abbrev pub node_at : (ℕ → Option Interval) → Bodies → ℕ → Node ℕ
node_at given bodies n = record { key = n; uses = uses_at (bodies n); part = part_in given (bodies n) }

nodes-numbered : (given : ℕ → Option Interval) (bodies : Bodies) (ns : List ℕ) → ((n : ℕ) → has ns n ≡ true → is_some (bodies n) ≡ true)
    → map (node_of nat_eq given) (numbered bodies ns) ≡ map (node_at given bodies) ns
nodes-numbered given bodies [] there = refl
nodes-numbered given bodies (m ∷ ns) there =
    by (bodies m) (there m (has-first m ns)) (nodes-numbered given bodies ns (λ n h. there n (has-next m n ns h))) where
      by : (b : Option (Body ℕ)) → is_some b ≡ true → map (node_of nat_eq given) (numbered bodies ns) ≡ map (node_at given bodies) ns
          → map (node_of nat_eq given) (before m b (numbered bodies ns))
          ≡ record { key = m; uses = uses_at b; part = part_in given b } ∷ map (node_at given bodies) ns
      by None some rest = absurd (true≢false (sym some))
      by (Some body) some rest = ap (λ l. node_of nat_eq given (record { key = m; body = body }) ∷ l) rest

-- the quantities of the graph
abbrev pub quantities : List GraphNode → Bodies → List (Quantity ℕ)
quantities nodes bodies = numbered bodies (ids_of nodes)

abbrev pub nodes_at : List GraphNode → Bodies → List ℕ → List (Node ℕ)
nodes_at nodes bodies ns = map (node_at (span_at nat_eq (quantities nodes bodies)) bodies) ns

pub nodes_of-numbered : (nodes : List GraphNode) (bodies : Bodies) → IsGraphOf nodes bodies
    → nodes_of nat_eq (quantities nodes bodies) ≡ nodes_at nodes bodies (reverse (ids_of nodes))
nodes_of-numbered nodes bodies graph =
    let given : ℕ → Option Interval = span_at nat_eq (quantities nodes bodies) in
    map-reverse (node_of nat_eq given) (quantities nodes bodies)
    ∙ ap reverse (nodes-numbered given bodies (ids_of nodes) (λ n h. sym (graph.placed n) ∙ h))
    ∙ sym (map-reverse (node_at given bodies) (ids_of nodes))

-- ---- what depends on what
some_user : (given : ℕ → Option Interval) (bodies : Bodies) (p : ℕ → Bool) (n : ℕ) (ks : List ℕ)
    → list_any (λ u. p u.key) (users n (map (node_at given bodies) ks)) ≡ true → (m : ℕ) × (uses_at (bodies m) n ≡ true) × (p m ≡ true)
some_user given bodies p n [] h = absurd (true≢false (sym h))
some_user given bodies p n (k ∷ ks) h = by (uses_at (bodies k) n) refl h (λ t. some_user given bodies p n ks t) where
  by : (b : Bool) → uses_at (bodies k) n ≡ b
      → list_any (λ u. p u.key) (if b then node_at given bodies k ∷ users n (map (node_at given bodies) ks) else users n (map (node_at given bodies) ks)) ≡ true
      → (list_any (λ u. p u.key) (users n (map (node_at given bodies) ks)) ≡ true → (m : ℕ) × (uses_at (bodies m) n ≡ true) × (p m ≡ true))
      → (m : ℕ) × (uses_at (bodies m) n ≡ true) × (p m ≡ true)
  by true e t rest = here (or_cases (p k) (list_any (λ u. p u.key) (users n (map (node_at given bodies) ks))) t) where
    here : (p k ≡ true) ⊎ (list_any (λ u. p u.key) (users n (map (node_at given bodies) ks)) ≡ true) → (m : ℕ) × (uses_at (bodies m) n ≡ true) × (p m ≡ true)
    here (inl passes) = (k, e, passes)
    here (inr later) = rest later
  by false e t rest = rest t

any_user : (given : ℕ → Option Interval) (bodies : Bodies) (p : ℕ → Bool) (m n : ℕ) → uses_at (bodies m) n ≡ true → p m ≡ true → (ks : List ℕ)
    → has ks m ≡ true → list_any (λ u. p u.key) (users n (map (node_at given bodies) ks)) ≡ true
any_user given bodies p m n used passes [] h = absurd (true≢false (sym h))
any_user given bodies p m n used passes (k ∷ ks) h =
    by (uses_at (bodies k) n) refl (or_cases (nat_eq m k) (has ks m) h) (any_user given bodies p m n used passes ks) where
      by : (b : Bool) → uses_at (bodies k) n ≡ b → (nat_eq m k ≡ true) ⊎ (has ks m ≡ true)
          → (has ks m ≡ true → list_any (λ u. p u.key) (users n (map (node_at given bodies) ks)) ≡ true)
          → list_any (λ u. p u.key) (if b then node_at given bodies k ∷ users n (map (node_at given bodies) ks) else users n (map (node_at given bodies) ks)) ≡ true
      by true e (inl t) rest = or_left (p k) (list_any (λ u. p u.key) (users n (map (node_at given bodies) ks))) (ap p (sym (equal m k t)) ∙ passes)
      by true e (inr t) rest = or_right (p k) (list_any (λ u. p u.key) (users n (map (node_at given bodies) ks))) (rest t)
      by false e (inl t) rest = absurd (true≢false (sym used ∙ ap (λ j. uses_at (bodies j) n) (equal m k t) ∙ e))
      by false e (inr t) rest = rest t

reached_through : (nodes : List GraphNode) (bodies : Bodies) → IsGraphOf nodes bodies → (given : ℕ → Option Interval) (ks : List ℕ) (y k n : ℕ)
    → is_in_cone_through nat_eq (map (node_at given bodies) ks) y k n ≡ true → DependsOn nodes y n
reached_through nodes bodies graph given ks y zero n h = absurd (true≢false (sym h))
reached_through nodes bodies graph given ks y (suc k) n h =
    by (or_cases (nat_eq n y) (list_any (λ u. is_in_cone_through nat_eq (map (node_at given bodies) ks) y k u.key) (users n (map (node_at given bodies) ks))) h)
    (λ m t. reached_through nodes bodies graph given ks y k m t) where
      by : (nat_eq n y ≡ true) ⊎ (list_any (λ u. is_in_cone_through nat_eq (map (node_at given bodies) ks) y k u.key) (users n (map (node_at given bodies) ks)) ≡ true)
          → ((m : ℕ) → is_in_cone_through nat_eq (map (node_at given bodies) ks) y k m ≡ true → DependsOn nodes y m)
          → DependsOn nodes y n
      by (inl t) far = record { chain = []; is = sym (equal n y t) }
      by (inr t) far =
          let user = some_user given bodies (is_in_cone_through nat_eq (map (node_at given bodies) ks) y k) n ks t in
          let way = far user.0 user.2 in
          record {
            chain = way.chain ++ n ∷ [];
            is = chain-more (uses_in nodes) way.chain y user.0 n way.is (graph.uses user.0 n ∙ sym (uses_at-has (bodies user.0) n) ∙ user.1);
          }

pub depends-reaches : (nodes : List GraphNode) (bodies : Bodies) → IsGraphOf nodes bodies → (y n : ℕ) → depends_on nat_eq (quantities nodes bodies) y n ≡ true
    → DependsOn nodes y n
unfolding is_in_cone
depends-reaches nodes bodies graph y n h =
    let given : ℕ → Option Interval = span_at nat_eq (quantities nodes bodies) in
    reached_through nodes bodies graph given (reverse (ids_of nodes)) y (suc (length (nodes_of nat_eq (quantities nodes bodies)))) n
    (ap (λ ns. is_in_cone_through nat_eq ns y (suc (length (nodes_of nat_eq (quantities nodes bodies)))) n) (sym (nodes_of-numbered nodes bodies graph)) ∙ h)

closed : (nodes : List GraphNode) (bodies : Bodies) → IsGraphOf nodes bodies → (y n : ℕ)
    → depends_on nat_eq (quantities nodes bodies) y n
    ≡ (nat_eq n y || list_any (λ u. depends_on nat_eq (quantities nodes bodies) y u.key) (users n (nodes_at nodes bodies (reverse (ids_of nodes)))))
closed nodes bodies graph y n =
    depends_on-closed nat_eq same_numbers (quantities nodes bodies) graph.earlier y n
    ∙ ap (λ ns. nat_eq n y || list_any (λ u. depends_on nat_eq (quantities nodes bodies) y u.key) (users n ns)) (nodes_of-numbered nodes bodies graph)

chain_depends : (nodes : List GraphNode) (bodies : Bodies) → IsGraphOf nodes bodies → (y k n : ℕ) (ms : List ℕ)
    → depends_on nat_eq (quantities nodes bodies) y k ≡ true → IsChain (uses_in nodes) k ms n → depends_on nat_eq (quantities nodes bodies) y n ≡ true
chain_depends nodes bodies graph y k n [] h c = ap (depends_on nat_eq (quantities nodes bodies) y) (sym c) ∙ h
chain_depends nodes bodies graph y k n (m ∷ ms) h c = chain_depends nodes bodies graph y m n ms step c.1 where
  used : uses_at (bodies k) m ≡ true
  used = uses_at-has (bodies k) m ∙ sym (graph.uses k m) ∙ c.0

  some : (b : Option (Body ℕ)) → uses_at b m ≡ true → is_some b ≡ true
  some None e = absurd (true≢false (sym e))
  some (Some body) e = refl

  there : has (reverse (ids_of nodes)) k ≡ true
  there = has-reverse (ids_of nodes) k ∙ graph.placed k ∙ some (bodies k) used

  step : depends_on nat_eq (quantities nodes bodies) y m ≡ true
  step =
      closed nodes bodies graph y m
      ∙ or_right (nat_eq m y) (list_any (λ u. depends_on nat_eq (quantities nodes bodies) y u.key) (users m (nodes_at nodes bodies (reverse (ids_of nodes)))))
      (any_user (span_at nat_eq (quantities nodes bodies)) bodies (depends_on nat_eq (quantities nodes bodies) y) k m used h (reverse (ids_of nodes)) there)

pub reaches-depends : (nodes : List GraphNode) (bodies : Bodies) → IsGraphOf nodes bodies → (y n : ℕ) → DependsOn nodes y n
    → depends_on nat_eq (quantities nodes bodies) y n ≡ true
reaches-depends nodes bodies graph y n r = chain_depends nodes bodies graph y y n r.chain first r.is where
  first : depends_on nat_eq (quantities nodes bodies) y y ≡ true
  first =
      closed nodes bodies graph y y
      ∙ or_left (nat_eq y y) (list_any (λ u. depends_on nat_eq (quantities nodes bodies) y u.key) (users y (nodes_at nodes bodies (reverse (ids_of nodes)))))
      (itself y)

-- ---- the cone
pub in_cone : (nodes : List GraphNode) (bodies : Bodies) → IsGraphOf nodes bodies → (y : ℕ) (list : List ℕ) → IsCone nodes y list → (n : ℕ)
    → depends_on nat_eq (quantities nodes bodies) y n ≡ has list n
in_cone nodes bodies graph y list is n =
    same-when (depends_on nat_eq (quantities nodes bodies) y n) (has list n) (λ h. (is.exactly n).1 (depends-reaches nodes bodies graph y n h))
    (λ h. reaches-depends nodes bodies graph y n ((is.exactly n).0 h))

pub falling-list : (nodes : List GraphNode) (y : ℕ) (list : List ℕ) → IsCone nodes y list → list ≡ filter (has list) (reverse (ids_of nodes))
falling-list nodes y list is = is.falling ∙ sym (filter-reverse (has list) (ids_of nodes))

pub cone_of-numbered : (nodes : List GraphNode) (bodies : Bodies) → IsGraphOf nodes bodies → (y : ℕ) (list : List ℕ) → IsCone nodes y list
    → cone_of nat_eq (quantities nodes bodies) y ≡ nodes_at nodes bodies list
cone_of-numbered nodes bodies graph y list is =
    let depends : ℕ → Bool = depends_on nat_eq (quantities nodes bodies) y in
    let back : List ℕ = reverse (ids_of nodes) in
    ap (filter (λ m. depends m.key)) (nodes_of-numbered nodes bodies graph)
    ∙ filter-map (λ m. depends m.key) (node_at (span_at nat_eq (quantities nodes bodies)) bodies) back
    ∙ ap (nodes_at nodes bodies)
    (filter-same depends (has list) back (λ n h. in_cone nodes bodies graph y list is n) ∙ sym (falling-list nodes y list is))

-- each in the list is a node
pub cone-there : (nodes : List GraphNode) (y : ℕ) (list : List ℕ) → IsCone nodes y list → (n : ℕ) → has list n ≡ true → has (ids_of nodes) n ≡ true
cone-there nodes y list is n h =
    let both = sym (has-filter (has list) (reverse (ids_of nodes)) n) ∙ ap (λ l. has l n) (sym (falling-list nodes y list is)) ∙ h in
    sym (has-reverse (ids_of nodes) n) ∙ (and_parts (has (reverse (ids_of nodes)) n) (has list n) both).0

pub place-there : (nodes : List GraphNode) (y : ℕ) (list : List ℕ) → IsCone nodes y list → (i n : ℕ) → i < length list → n ≡ get_or list i n → has (ids_of nodes) n ≡ true
place-there nodes y list is i n within at =
    cone-there nodes y list is n (list_any_at (nat_eq n) list i n within (ap (nat_eq n) (sym at) ∙ itself n))

-- none from a place on uses the one at the place
uses_none : (given : ℕ → Option Interval) (bodies : Bodies) (n : ℕ) (ks : List ℕ) → AllByRecursion (λ u. u.uses n ≡ false) (map (node_at given bodies) ks)
    → (m : ℕ) → has ks m ≡ true → uses_at (bodies m) n ≡ false
uses_none given bodies n [] h m t = absurd (true≢false (sym t))
uses_none given bodies n (k ∷ ks) h m t = by (or_cases (nat_eq m k) (has ks m) t) (uses_none given bodies n ks h.1 m) where
  by : (nat_eq m k ≡ true) ⊎ (has ks m ≡ true) → (has ks m ≡ true → uses_at (bodies m) n ≡ false) → uses_at (bodies m) n ≡ false
  by (inl e) rest = ap (λ j. uses_at (bodies j) n) (equal m k e) ∙ h.0
  by (inr e) rest = rest e

falling-at : (given : ℕ → Option Interval) (bodies : Bodies) (ks : List ℕ) → AreFalling (map (node_at given bodies) ks) → (i : ℕ) → i < length ks → (m : ℕ)
    → has (drop i ks) m ≡ true → uses_at (bodies m) (get_or ks i 0) ≡ false
falling-at given bodies [] h i within m t = absurd (omega (arith, within))
falling-at given bodies (k ∷ ks) h zero within m t = uses_none given bodies k (k ∷ ks) h.0 m t
falling-at given bodies (k ∷ ks) h (suc i) within m t = falling-at given bodies ks h.1 i (omega (arith, within)) m t

pub unused_later : (nodes : List GraphNode) (bodies : Bodies) → IsGraphOf nodes bodies → (y : ℕ) (list : List ℕ) → IsCone nodes y list
    → (i : ℕ) → i < length list → (m : ℕ) → has (drop i list) m ≡ true → uses_at (bodies m) (get_or list i 0) ≡ false
unused_later nodes bodies graph y list is =
    falling-at (span_at nat_eq (quantities nodes bodies)) bodies list
    (subst AreFalling (cone_of-numbered nodes bodies graph y list is) (cone_of-falling nat_eq same_numbers (quantities nodes bodies) graph.earlier y))
