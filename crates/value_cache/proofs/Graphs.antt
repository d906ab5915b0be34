-- Graphs of bodies, as quantities are placed one by one.
use Rattle.std.specs.Prelude.{◌≡◌, ℕ, Bool, true, false, ◌||◌, not, if◌then◌else◌, nat_eq, List, [], ◌∷◌, ◌++◌, find, is_some, Option, Some, None, refl}
use Rattle.std.proofs.Common.{arith, sym, ◌∙◌, ap, subst}
use Rattle.std.proofs.lemmas.Bool.{true≢false, or_left, or_right}
use Rattle.std.proofs.lemmas.Bool.Decides.{nat_tests}
use Rattle.std.proofs.lemmas.List.{append_assoc, append-nil, map-append}
use mathlib.Core.Path.{fun_ext}
use Rattle.dep_graph.specs.Nodes.{Node, has, ids_of, uses_in, AreOnce, IsWhole}
use Rattle.value_cache.specs.Quantities.{Body, Quantity, is_there, first_unknown, used_by}
use Rattle.value_cache.specs.Evaluable.{AreInOrder}
use Rattle.value_cache.specs.Rules.{Bodies, uses_of, before, numbered, IsGraphOf}
use Rattle.value_cache.proofs.Rules.{has-first}
use Rattle.value_cache.proofs.Orders.{body_of-numbered, numbered-last, has-last, next}

pub graph-empty : (bodies : Bodies) → ((n : ℕ) → bodies n ≡ None) → IsGraphOf [] bodies
graph-empty bodies none = record {
  placed = λ n. ap is_some (sym (none n));
  uses = λ n m. ap (λ b. has (uses_of b) m) (sym (none n));
  earlier = tt;
}

-- the same bodies at each number
pub graph-same : (nodes : List Node) (bodies new : Bodies) → ((n : ℕ) → new n ≡ bodies n) → IsGraphOf nodes bodies → IsGraphOf nodes new
graph-same nodes bodies new same graph = subst (IsGraphOf nodes) (sym (fun_ext same)) graph

-- ---- one quantity more
-- after those that are in order, one of a new key that uses these alone
order-last : {K : Type 0} (same : K → K → Bool) (done qs : List (Quantity K)) (q : Quantity K) → AreInOrder same done qs
    → is_there same (done ++ qs) q.key ≡ false → first_unknown same (done ++ qs) (used_by q.body) ≡ None → AreInOrder same done (qs ++ q ∷ [])
order-last same done [] q order new used =
    let none : done ++ [] ≡ done = append-nil done in
    (ap (λ l. is_there same l q.key) (sym none) ∙ new, ap (λ l. first_unknown same l (used_by q.body)) (sym none) ∙ used, tt)
order-last same done (first ∷ qs) q order new used =
    let turned : done ++ first ∷ [] ++ qs ≡ done ++ (first ∷ qs) = append_assoc done (first ∷ []) qs in (
      order.0,
      order.1,
      order-last same (done ++ first ∷ []) qs q order.2 (ap (λ l. is_there same l q.key) turned ∙ new)
          (ap (λ l. first_unknown same l (used_by q.body)) turned ∙ used),
    )

all-known : (known : ℕ → Bool) (ns : List ℕ) → ((m : ℕ) → has ns m ≡ true → known m ≡ true) → find (λ n. not (known n)) ns ≡ None
all-known known [] h = refl
all-known known (n ∷ ns) h = rw (h n (has-first n ns)) (all-known known ns (λ m t. h m (or_right (nat_eq m n) (has ns m) t)))

none-when : {X : Type 0} (o : Option X) → is_some o ≡ false → o ≡ None
none-when None h = refl
none-when (Some x) h = absurd (true≢false h)

numbered-same : (bodies new : Bodies) (ns : List ℕ) → ((n : ℕ) → has ns n ≡ true → new n ≡ bodies n) → numbered new ns ≡ numbered bodies ns
numbered-same bodies new [] same = refl
numbered-same bodies new (n ∷ ns) same =
    ap (λ b. before n b (numbered new ns)) (same n (has-first n ns))
    ∙ ap (before n (bodies n)) (numbered-same bodies new ns (λ m h. same m (or_right (nat_eq m n) (has ns m) h)))

uses-last : (nodes : List Node) (node : Node) (n : ℕ)
    → uses_in (nodes ++ node ∷ []) n ≡ (if has (ids_of nodes) n then uses_in nodes n else if nat_eq n node.id then node.uses else [])
uses-last [] node n = refl
uses-last (first ∷ nodes) node n = by (nat_eq n first.id) (uses-last nodes node n) where
  by : (t : Bool) → uses_in (nodes ++ node ∷ []) n ≡ (if has (ids_of nodes) n then uses_in nodes n else if nat_eq n node.id then node.uses else [])
      → (if t then first.uses else uses_in (nodes ++ node ∷ []) n)
      ≡ (if t || has (ids_of nodes) n then (if t then first.uses else uses_in nodes n) else if nat_eq n node.id then node.uses else [])
  by true rest = refl
  by false rest = rest

-- a quantity is placed after those that it uses
pub graph-added : (nodes : List Node) (bodies new : Bodies) (node : Node) (body : Body ℕ) → IsGraphOf nodes bodies → bodies node.id ≡ None
    → ((n : ℕ) → new n ≡ (if nat_eq n node.id then Some body else bodies n)) → ((m : ℕ) → has node.uses m ≡ has (used_by body) m)
    → ((m : ℕ) → has node.uses m ≡ true → has (ids_of nodes) m ≡ true) → IsGraphOf (nodes ++ node ∷ []) new
graph-added nodes bodies new node body graph none added uses used = record { placed = placed; uses = each; earlier = earlier } where
  all : ids_of (nodes ++ node ∷ []) ≡ ids_of nodes ++ node.id ∷ []
  all = map-append (λ node. node.id) nodes (node ∷ [])

  absent : has (ids_of nodes) node.id ≡ false
  absent = graph.placed node.id ∙ ap is_some none

  here : new node.id ≡ Some body
  here = let t : nat_eq node.id node.id ≡ true = grind (arith, nat_tests) in added node.id ∙ ap (λ t. if t then Some body else bodies node.id) t

  -- of another number nothing changes
  there : (n : ℕ) → nat_eq n node.id ≡ false → new n ≡ bodies n
  there n q = added n ∙ ap (λ t. if t then Some body else bodies n) q

  other : (n : ℕ) → has (ids_of nodes) n ≡ true → (t : Bool) → nat_eq n node.id ≡ t → t ≡ false
  other n h true q = let e : n ≡ node.id = grind (arith, nat_tests) in absurd (true≢false (sym h ∙ ap (has (ids_of nodes)) e ∙ absent))
  other n h false q = refl

  placed-by : (n : ℕ) (t : Bool) → nat_eq n node.id ≡ t → (has (ids_of nodes) n || t) ≡ is_some (if t then Some body else bodies n)
  placed-by n true q = or_right (has (ids_of nodes) n) true refl
  placed-by n false q = or-false (has (ids_of nodes) n) ∙ graph.placed n where
    or-false : (a : Bool) → (a || false) ≡ a
    or-false true = refl
    or-false false = refl

  placed : (n : ℕ) → has (ids_of (nodes ++ node ∷ [])) n ≡ is_some (new n)
  placed n =
      ap (λ l. has l n) all ∙ has-last (ids_of nodes) node.id n ∙ placed-by n (nat_eq n node.id) refl
      ∙ ap is_some (sym (added n))

  each-by : (n m : ℕ) (t : Bool) → nat_eq n node.id ≡ t → (s : Bool) → has (ids_of nodes) n ≡ s
      → has (if s then uses_in nodes n else if t then node.uses else []) m ≡ has (uses_of (new n)) m
  each-by n m t q true r = graph.uses n m ∙ ap (λ b. has (uses_of b) m) (sym (there n (q ∙ other n r t q)))
  each-by n m true q false r =
      let e : node.id ≡ n = grind (arith, nat_tests) in
      uses m ∙ ap (λ b. has (uses_of b) m) (sym (ap new (sym e) ∙ here))
  each-by n m false q false r =
      let no : bodies n ≡ None = none-when (bodies n) (sym (graph.placed n) ∙ r) in
      ap (λ b. has (uses_of b) m) (sym (there n q ∙ no))

  each : (n m : ℕ) → has (uses_in (nodes ++ node ∷ []) n) m ≡ has (uses_of (new n)) m
  each n m = ap (λ l. has l m) (uses-last nodes node n) ∙ each-by n m (nat_eq n node.id) refl (has (ids_of nodes) n) refl

  known : (m : ℕ) → has (used_by body) m ≡ true → is_there nat_eq (numbered bodies (ids_of nodes)) m ≡ true
  known m h =
      let t : has (ids_of nodes) m ≡ true = used m (uses m ∙ h) in
      ap is_some (body_of-numbered bodies (ids_of nodes) m ∙ ap (λ t. if t then bodies m else None) t) ∙ sym (graph.placed m) ∙ t

  earlier : AreInOrder nat_eq [] (numbered new (ids_of (nodes ++ node ∷ [])))
  earlier =
      let first : numbered new (ids_of nodes) ≡ numbered bodies (ids_of nodes) =
      numbered-same bodies new (ids_of nodes) (λ n h. there n (other n h (nat_eq n node.id) refl)) in
      let list : numbered new (ids_of (nodes ++ node ∷ [])) ≡ numbered bodies (ids_of nodes) ++ record { key = node.id; body = body } ∷ [] =
      ap (numbered new) all ∙ numbered-last new (ids_of nodes) node.id body here
      ∙ ap (λ qs. qs ++ record { key = node.id; body = body } ∷ []) first in
      let free : is_there nat_eq (numbered bodies (ids_of nodes)) node.id ≡ false =
      ap is_some (body_of-numbered bodies (ids_of nodes) node.id ∙ ap (λ t. if t then bodies node.id else None) absent) in
      subst (AreInOrder nat_eq []) (sym list)
      (order-last nat_eq [] (numbered bodies (ids_of nodes)) (record { key = node.id; body = body }) graph.earlier free
      (all-known (is_there nat_eq (numbered bodies (ids_of nodes))) (used_by body) known))

-- ---- what a graph of bodies is besides
-- those in order are once, and none of them is before them
pub record AreNew (done : List ℕ) (nodes : List Node) : Type 0 where
  pub other : (k : ℕ) → has done k ≡ true → has (ids_of nodes) k ≡ false
  pub once : AreOnce nodes

new-nodes : (bodies : Bodies) (done : List ℕ) (nodes : List Node) → ((n : ℕ) → has (ids_of nodes) n ≡ true → is_some (bodies n) ≡ true)
    → AreInOrder nat_eq (numbered bodies done) (numbered bodies (ids_of nodes)) → AreNew done nodes
new-nodes bodies done [] there order = record { other = λ k h. refl; once = tt }
new-nodes bodies done (node ∷ nodes) there order =
    let step = next bodies done node.id (ids_of nodes) (there node.id (has-first node.id (ids_of nodes))) order in
    let rest = new-nodes bodies (done ++ node.id ∷ []) nodes (λ n h. there n (or_right (nat_eq n node.id) (has (ids_of nodes) n) h)) step.rest in
    let last : has (done ++ node.id ∷ []) node.id ≡ true =
    has-last done node.id node.id ∙ or_right (has done node.id) (nat_eq node.id node.id) (grind (arith, nat_tests)) in
    record {
      other = λ k h. by k h step.new (rest.other k (has-last done node.id k ∙ or_left (has done k) (nat_eq k node.id) h)) (nat_eq k node.id) refl;
      once = (rest.other node.id last, rest.once);
    } where
      by : (k : ℕ) → has done k ≡ true → has done node.id ≡ false → has (ids_of nodes) k ≡ false → (t : Bool) → nat_eq k node.id ≡ t → (t || has (ids_of nodes) k) ≡ false
      by k h new off true q = let e : k ≡ node.id = grind (arith, nat_tests) in absurd (true≢false (sym h ∙ ap (has done) e ∙ new))
      by k h new off false q = off

pub graph-once : (nodes : List Node) (bodies : Bodies) → IsGraphOf nodes bodies → AreOnce nodes
graph-once nodes bodies graph = (new-nodes bodies [] nodes (λ n h. sym (graph.placed n) ∙ h) graph.earlier).once

-- what one of those in order uses is before them or among them
used-there : (bodies : Bodies) (done ns : List ℕ) → ((n : ℕ) → has ns n ≡ true → is_some (bodies n) ≡ true)
    → AreInOrder nat_eq (numbered bodies done) (numbered bodies ns) → (n m : ℕ) → has ns n ≡ true → has (uses_of (bodies n)) m ≡ true → (has done m || has ns m) ≡ true
used-there bodies done [] there order n m h used = absurd (true≢false (sym h))
used-there bodies done (k ∷ ns) there order n m h used =
    let step = next bodies done k ns (there k (has-first k ns)) order in
    by step.used (used-there bodies (done ++ k ∷ []) ns (λ n h. there n (or_right (nat_eq n k) (has ns n) h)) step.rest n m) (nat_eq n k) refl where
      turned : (a b c : Bool) → ((a || b) || c) ≡ true → (a || (b || c)) ≡ true
      turned true b c h = refl
      turned false b c h = h

      by : ((m : ℕ) → has (uses_of (bodies k)) m ≡ true → has done m ≡ true)
          → (has ns n ≡ true → has (uses_of (bodies n)) m ≡ true → (has (done ++ k ∷ []) m || has ns m) ≡ true)
          → (t : Bool) → nat_eq n k ≡ t → (has done m || has (k ∷ ns) m) ≡ true
      by first rest true q =
          let e : n ≡ k = grind (arith, nat_tests) in
          or_left (has done m) (has (k ∷ ns) m) (first m (ap (λ n. has (uses_of (bodies n)) m) (sym e) ∙ used))
      by first rest false q =
          turned (has done m) (nat_eq m k) (has ns m) (ap (λ b. b || has ns m) (sym (has-last done k m)) ∙ rest (rw q at h) used)

pub graph-whole : (nodes : List Node) (bodies : Bodies) → IsGraphOf nodes bodies → IsWhole nodes
graph-whole nodes bodies graph = record { used = λ y n h. whole y n (sym (graph.uses y n) ∙ h) } where
  there : (n : ℕ) → has (ids_of nodes) n ≡ true → is_some (bodies n) ≡ true
  there n h = sym (graph.placed n) ∙ h

  node-there : (y n : ℕ) → has (uses_of (bodies y)) n ≡ true → is_some (bodies y) ≡ true
  node-there y n h = by (bodies y) h where
    by : (b : Option (Body ℕ)) → has (uses_of b) n ≡ true → is_some b ≡ true
    by None h = absurd (true≢false (sym h))
    by (Some body) h = refl

  whole : (y n : ℕ) → has (uses_of (bodies y)) n ≡ true → has (ids_of nodes) n ≡ true
  whole y n used = used-there bodies [] (ids_of nodes) there graph.earlier y n (graph.placed y ∙ node-there y n used) used
