-- The sweep: with each quantity of the cone one sensitivity more is found, and it solves its equation.
use Rattle.std.specs.Prelude.{◌≡◌, ℕ, ◌+◌, ◌≤◌, ◌<◌, Bool, true, false, ◌||◌, nat_eq, if◌then◌else◌, List, [], map, filter, reverse, take, drop, get_or, length, sum_by, is_some, Option, None, Some, Result, Ok, Err, refl}
use Rattle.std.specs.List.{list_all}
use Rattle.std.specs.Option.{ok_or, unwrap_or}
use Rattle.std.proofs.Common.{arith, sym, ◌∙◌, ap, ap₂, subst}
use Rattle.std.proofs.lemmas.Bool.{true≢false, and_parts}
use Rattle.std.proofs.lemmas.List.{take_all}
use Rattle.std.proofs.lemmas.List.Folds.{list_any_more, list_all-map, list_all_at}
use Rattle.std.proofs.lemmas.List.Sums.{sum_by-drop_more}
use Rattle.std.proofs.lemmas.List.Sorted.{sum_by-IsPermutation, IsPermutation-reverse}
use Rattle.std.proofs.lemmas.Simd.{map-map}
use Rattle.dep_graph.proofs.Orders.{has-filter, filter-same}
use Rattle.fixed_interval.specs.Interval.{Interval, point_span}
use Rattle.fixed_interval.specs.Rules.{one_bound, product_span}
use Rattle.fixed_interval.specs.Sums.{zero_span, both, sum_of}
use Rattle.fixed_interval.specs.declared.faults.Overflow.{Overflow}
use Rattle.fixed_interval.proofs.Sums.{missing as span_missing, there as span_there}
use Rattle.dep_graph.specs.Nodes.{Node as GraphNode, has, ids_of, users_in}
use Rattle.dep_graph.specs.Reaching.{IsCone}
use Rattle.covariance.specs.Gradients.{Spans}
use Rattle.value_cache.specs.Evaluations.{Found, span_in, evaluation_of}
use Rattle.value_cache.specs.Rules.{Bodies, AreRight, IsGraphOf}
use Rattle.value_cache.specs.declared.evaluation.Evaluation.{Evaluation}
use Rattle.value_cache.proofs.Rules.{used-found}
use Rattle.value_cache.proofs.Orders.{chain-found, right-evaluation}
use Rattle.adjoint_pass.specs.Sweep.{Node, terms}
use Rattle.adjoint_pass.specs.Sensitivities.{span_at, cone_of, sensitivity_of, has_gradient, gradient_of}
use Rattle.adjoint_pass.specs.Costs.{term_cost, gradient_cost}
use Rattle.adjoint_pass.specs.Gathering.{part_in, part_at, term_at, found_among, next_sensitivity, next_cost}
use Rattle.adjoint_pass.proofs.Lists.{filter-map}
use Rattle.adjoint_pass.proofs.Equations.{sensitivity_of-solves}
use Rattle.adjoint_pass.proofs.Numbers.{same_numbers, equal, has-parts, map_same_at, all_at, filter-filter, times, once, apart-filter}
use Rattle.adjoint_pass.proofs.Rows.{uses_at, part_same}
use Rattle.adjoint_pass.proofs.Effort.{cost_at, cone_costs}
use Rattle.adjoint_pass.proofs.Nodes.{quantities, node_at, users-back, in_cone, falling-list, cone_of-numbered, unused_later, ids-apart}

-- what is known when the sweep begins, where `list` is the cone
pub record IsSweep (nodes : List GraphNode) (bodies : Bodies) (cells : Found ℕ) (y : ℕ) (list : List ℕ) : Type 0 where
  pub graph : IsGraphOf nodes bodies
  pub cone : IsCone nodes y list
  pub right : AreRight bodies cells
  pub fresh : is_some (cells y) ≡ true

-- the sensitivities to these are found, and no others
pub record AreFound (a : Spans ℕ) (seen : List ℕ) (found : Spans ℕ) : Type 0 where
  pub same : (n : ℕ) → found n ≡ (if has seen n then a n else None)
  pub there : (n : ℕ) → has seen n ≡ true → is_some (a n) ≡ true

abbrev pub sensitivities : List GraphNode → Bodies → ℕ → Spans ℕ
sensitivities nodes bodies y = sensitivity_of nat_eq (quantities nodes bodies) y

-- ---- partial derivatives by the cells are those by the evaluations
cell_span : (nodes : List GraphNode) (bodies : Bodies) (cells : Found ℕ) → IsGraphOf nodes bodies → AreRight bodies cells → (k : ℕ) → is_some (cells k) ≡ true
    → span_at nat_eq (quantities nodes bodies) k ≡ span_in (cells k)
cell_span nodes bodies cells graph right k there = by (cells k) refl there where
  by : (o : Option (Evaluation ℕ)) → cells k ≡ o → is_some o ≡ true → span_in (evaluation_of nat_eq (quantities nodes bodies) k) ≡ span_in o
  by None e h = absurd (true≢false (sym h))
  by (Some cell) e h = ap span_in (right-evaluation nodes bodies cells graph right k cell e)

part_by_cells : (nodes : List GraphNode) (bodies : Bodies) (cells : Found ℕ) (y : ℕ) (list : List ℕ) → IsSweep nodes bodies cells y list
    → (m n : ℕ) → has list m ≡ true → part_in (span_at nat_eq (quantities nodes bodies)) (bodies m) n ≡ part_at bodies cells m n
part_by_cells nodes bodies cells y list w m n h =
    part_same (span_at nat_eq (quantities nodes bodies)) (λ k. span_in (cells k)) (bodies m) n
    (λ k used. cell_span nodes bodies cells w.graph w.right k (used-found bodies cells w.right m k there used)) where
      there : is_some (cells m) ≡ true
      there =
          let way = (w.cone.exactly m).0 h in
          chain-found nodes bodies cells w.graph w.right way.chain y m w.fresh way.is

-- ---- the equation at a place
-- the users that are found are those in the cone
later : (nodes : List GraphNode) (bodies : Bodies) (cells : Found ℕ) (y : ℕ) (list : List ℕ) → IsSweep nodes bodies cells y list
    → (i n : ℕ) → i < length list → get_or list i 0 ≡ n → (m : ℕ) → uses_at (bodies m) n ≡ true → has (take i list) m ≡ has list m
later nodes bodies cells y list w i n within at m used = by (has (drop i list) m) refl (has-parts i list m) where
  or-none : (a : Bool) → (a || false) ≡ a
  or-none true = refl
  or-none false = refl

  by : (b : Bool) → has (drop i list) m ≡ b → has list m ≡ (has (take i list) m || has (drop i list) m) → has (take i list) m ≡ has list m
  by true e parts =
      absurd
      (true≢false (sym used ∙ ap (uses_at (bodies m)) (sym at) ∙ unused_later nodes bodies w.graph y list w.cone i within m e))
  by false e parts = sym (parts ∙ ap (λ b. has (take i list) m || b) e ∙ or-none (has (take i list) m))

is_found : (a found : Spans ℕ) (seen : List ℕ) → AreFound a seen found → (m : ℕ) → is_some (found m) ≡ has seen m
is_found a found seen h m = ap is_some (h.same m) ∙ by (has seen m) refl where
  by : (b : Bool) → has seen m ≡ b → is_some (if b then a m else None) ≡ b
  by true e = h.there m e
  by false e = refl

picked : (nodes : List GraphNode) (bodies : Bodies) (cells : Found ℕ) (y : ℕ) (list : List ℕ) → IsSweep nodes bodies cells y list
    → (i n : ℕ) → i < length list → get_or list i 0 ≡ n → (found : Spans ℕ) → AreFound (sensitivities nodes bodies y) (take i list) found
    → found_among found (reverse (users_in nodes n)) ≡ filter (λ m. uses_at (bodies m) n) list
picked nodes bodies cells y list w i n within at found h =
    let uses : ℕ → Bool = λ m. uses_at (bodies m) n in
    let back : List ℕ = reverse (ids_of nodes) in
    ap (found_among found) (users-back nodes bodies w.graph n)
    ∙ filter-same (λ m. is_some (found m)) (has list) (filter uses back)
    (λ m t. is_found (sensitivities nodes bodies y) found (take i list) h m
    ∙ later nodes bodies cells y list w i n within at m (and_parts (has back m) (uses m) (sym (has-filter uses back m) ∙ t)).1)
    ∙ filter-filter (has list) uses back
    ∙ ap (filter uses) (sym (falling-list nodes y list w.cone))

-- what the users in the cone bring
solved : (nodes : List GraphNode) (bodies : Bodies) (cells : Found ℕ) (y : ℕ) (list : List ℕ) → IsSweep nodes bodies cells y list → (n : ℕ)
    → terms (sensitivities nodes bodies y) n (cone_of nat_eq (quantities nodes bodies) y)
    ≡ map (λ m. both (sensitivities nodes bodies y m) (part_in (span_at nat_eq (quantities nodes bodies)) (bodies m) n) product_span) (filter (λ m. uses_at (bodies m) n) list)
solved nodes bodies cells y list w n =
    let at : ℕ → Node ℕ = node_at (span_at nat_eq (quantities nodes bodies)) bodies in
    let bring : Node ℕ → Option Interval = λ m. both (sensitivities nodes bodies y m.key) (m.part n) product_span in
    ap (terms (sensitivities nodes bodies y) n) (cone_of-numbered nodes bodies w.graph y list w.cone)
    ∙ ap (map bring) (filter-map (λ m. m.uses n) at list)
    ∙ map-map bring at (filter (λ m. uses_at (bodies m) n) list)

some_again : (o : Option Interval) → is_some o ≡ true → o ≡ Some (unwrap_or o zero_span)
some_again None h = absurd (true≢false (sym h))
some_again (Some s) h = refl

next_is : (nodes : List GraphNode) (bodies : Bodies) (cells : Found ℕ) (y : ℕ) (list : List ℕ) → IsSweep nodes bodies cells y list
    → (i n : ℕ) → i < length list → get_or list i 0 ≡ n → (found : Spans ℕ) → AreFound (sensitivities nodes bodies y) (take i list) found
    → next_sensitivity nodes bodies cells y found n ≡ sensitivities nodes bodies y n
next_is nodes bodies cells y list w i n within at found h =
    ap (λ ts. if nat_eq n y then Some (point_span one_bound) else sum_of ts)
    (ap (map (term_at bodies cells found n)) (picked nodes bodies cells y list w i n within at found h)
    ∙ map_same_at (term_at bodies cells found n) (λ m. both (a m) (part_in given (bodies m) n) product_span) (filter uses list)
    (λ m t. let two = and_parts (has list m) (uses m) (sym (has-filter uses list m) ∙ t) in term m two.0 two.1)
    ∙ sym (solved nodes bodies cells y list w n))
    ∙ sym (sensitivity_of-solves nat_eq same_numbers (quantities nodes bodies) w.graph.earlier y n) where
      a : Spans ℕ
      a = sensitivities nodes bodies y

      given : ℕ → Option Interval
      given = span_at nat_eq (quantities nodes bodies)

      uses : ℕ → Bool
      uses m = uses_at (bodies m) n

      term : (m : ℕ) → has list m ≡ true → uses m ≡ true → term_at bodies cells found n m ≡ both (a m) (part_in given (bodies m) n) product_span
      term m there used =
          let seen : has (take i list) m ≡ true = later nodes bodies cells y list w i n within at m used ∙ there in
          let same : found m ≡ a m = h.same m ∙ ap (λ b. if b then a m else None) seen in
          let known : is_some (found m) ≡ true = is_found a found (take i list) h m ∙ seen in
          ap₂ (λ a p. both a p product_span) (sym (some_again (found m) known) ∙ same) (sym (part_by_cells nodes bodies cells y list w m n there))

cost_is : (nodes : List GraphNode) (bodies : Bodies) (cells : Found ℕ) (y : ℕ) (list : List ℕ) → IsSweep nodes bodies cells y list
    → (i n : ℕ) → i < length list → get_or list i 0 ≡ n → (found : Spans ℕ) → AreFound (sensitivities nodes bodies y) (take i list) found
    → next_cost nodes bodies y found n ≡ cost_at bodies y list n
cost_is nodes bodies cells y list w i n within at found h =
    ap (λ ms. if nat_eq n y then 1 else sum_by (λ m. term_cost (bodies m)) ms) (picked nodes bodies cells y list w i n within at found h)

-- ---- the loop
pub none_found : (a : Spans ℕ) (found : Spans ℕ) → ((n : ℕ) → found n ≡ None) → AreFound a [] found
none_found a found h = record { same = h; there = λ n t. absurd (true≢false (sym t)) }

found_next : (a : Spans ℕ) (list : List ℕ) (i n : ℕ) (s : Interval) (old new : Spans ℕ) → i < length list → get_or list i 0 ≡ n → a n ≡ Some s
    → ((m : ℕ) → new m ≡ (if nat_eq m n then Some s else old m)) → AreFound a (take i list) old → AreFound a (take (i + 1) list) new
found_next a list i n s old new within at is put h = record { same = λ m. same m (nat_eq m n) refl; there = λ m t. there m (nat_eq m n) refl t } where
  more : (m : ℕ) → has (take (i + 1) list) m ≡ (has (take i list) m || nat_eq m n)
  more m = list_any_more (nat_eq m) list i 0 within ∙ ap (λ k. has (take i list) m || nat_eq m k) at

  or-true : (a : Bool) → (a || true) ≡ true
  or-true true = refl
  or-true false = refl

  or-none : (a : Bool) → (a || false) ≡ a
  or-none true = refl
  or-none false = refl

  same : (m : ℕ) (b : Bool) → nat_eq m n ≡ b → new m ≡ (if has (take (i + 1) list) m then a m else None)
  same m true e =
      let yes : has (take (i + 1) list) m ≡ true = more m ∙ ap (λ b. has (take i list) m || b) e ∙ or-true (has (take i list) m) in
      put m ∙ ap (λ b. if b then Some s else old m) e ∙ sym (ap a (equal m n e) ∙ is) ∙ ap (λ b. if b then a m else None) (sym yes)
  same m false e =
      let old-test : has (take (i + 1) list) m ≡ has (take i list) m = more m ∙ ap (λ b. has (take i list) m || b) e ∙ or-none (has (take i list) m) in
      put m ∙ ap (λ b. if b then Some s else old m) e ∙ h.same m ∙ ap (λ b. if b then a m else None) (sym old-test)

  there : (m : ℕ) (b : Bool) → nat_eq m n ≡ b → has (take (i + 1) list) m ≡ true → is_some (a m) ≡ true
  there m true e t = ap is_some (ap a (equal m n e) ∙ is)
  there m false e t = h.there m (sym (more m ∙ ap (λ b. has (take i list) m || b) e ∙ or-none (has (take i list) m)) ∙ t)

-- one sensitivity more is found, from the users that are
pub found_more : (nodes : List GraphNode) (bodies : Bodies) (cells : Found ℕ) (y : ℕ) (list : List ℕ) → IsSweep nodes bodies cells y list
    → (i n : ℕ) (s : Interval) (old new : Spans ℕ) → i < length list → ◌≡◌ {A = Result Interval Overflow} (Ok s) (ok_or (next_sensitivity nodes bodies cells y old n) (record {}))
    → ((m : ℕ) → new m ≡ (if nat_eq m n then Some s else old m)) → AreFound (sensitivities nodes bodies y) (take i list) old → get_or list i 0 ≡ n
    → AreFound (sensitivities nodes bodies y) (take (i + 1) list) new
found_more nodes bodies cells y list w i n s old new within is put h at =
    found_next (sensitivities nodes bodies y) list i n s old new within at
    (sym (next_is nodes bodies cells y list w i n within at old h) ∙ span_there (next_sensitivity nodes bodies cells y old n) s (record {}) is) put h

-- at the end
all_seen : (a found : Spans ℕ) (list : List ℕ) (i : ℕ) → length list ≤ i → AreFound a (take i list) found → AreFound a list found
all_seen a found list i past h = subst (λ seen. AreFound a seen found) (take_all i list past) h

pub found_all : (nodes : List GraphNode) (bodies : Bodies) (cells : Found ℕ) (y : ℕ) (list : List ℕ) → IsSweep nodes bodies cells y list
    → (i : ℕ) (found : Spans ℕ) → length list ≤ i → AreFound (sensitivities nodes bodies y) (take i list) found
    → (n : ℕ) → found n ≡ gradient_of nat_eq (quantities nodes bodies) y n
found_all nodes bodies cells y list w i found past h n =
    let all = all_seen (sensitivities nodes bodies y) found list i past h in
    all.same n ∙ ap (λ b. if b then sensitivities nodes bodies y n else None) (sym (in_cone nodes bodies w.graph y list w.cone n))

gradient-list : (nodes : List GraphNode) (bodies : Bodies) (cells : Found ℕ) (y : ℕ) (list : List ℕ) → IsSweep nodes bodies cells y list
    → has_gradient nat_eq (quantities nodes bodies) y ≡ list_all (λ n. is_some (sensitivities nodes bodies y n)) list
gradient-list nodes bodies cells y list w =
    let there : Node ℕ → Bool = λ m. is_some (sensitivities nodes bodies y m.key) in
    ap (list_all there) (cone_of-numbered nodes bodies w.graph y list w.cone)
    ∙ list_all-map there (node_at (span_at nat_eq (quantities nodes bodies)) bodies) list

pub gradient_there : (nodes : List GraphNode) (bodies : Bodies) (cells : Found ℕ) (y : ℕ) (list : List ℕ) → IsSweep nodes bodies cells y list
    → (i : ℕ) (found : Spans ℕ) → length list ≤ i → AreFound (sensitivities nodes bodies y) (take i list) found
    → has_gradient nat_eq (quantities nodes bodies) y ≡ true
gradient_there nodes bodies cells y list w i found past h =
    gradient-list nodes bodies cells y list w
    ∙ all_at (λ n. is_some (sensitivities nodes bodies y n)) list (all_seen (sensitivities nodes bodies y) found list i past h).there

-- where one is not found, it has left the range
pub gradient_missing : (nodes : List GraphNode) (bodies : Bodies) (cells : Found ℕ) (y : ℕ) (list : List ℕ) → IsSweep nodes bodies cells y list
    → (i n : ℕ) (found : Spans ℕ) (x : Overflow) → i < length list → ◌≡◌ {A = Result Interval Overflow} (Err x) (ok_or (next_sensitivity nodes bodies cells y found n) (record {}))
    → AreFound (sensitivities nodes bodies y) (take i list) found → get_or list i 0 ≡ n
    → has_gradient nat_eq (quantities nodes bodies) y ≡ false
gradient_missing nodes bodies cells y list w i n found x within is h at =
    let none : sensitivities nodes bodies y n ≡ None =
    sym (next_is nodes bodies cells y list w i n within at found h) ∙ span_missing (next_sensitivity nodes bodies cells y found n) x (record {}) is in
    gradient-list nodes bodies cells y list w
    ∙ list_all_at (λ k. is_some (sensitivities nodes bodies y k)) list i 0 within (ap (λ k. is_some (sensitivities nodes bodies y k)) at ∙ ap is_some none)

-- ---- what it costs
cone_once : (nodes : List GraphNode) (bodies : Bodies) (cells : Found ℕ) (y : ℕ) (list : List ℕ) → IsSweep nodes bodies cells y list
    → (k : ℕ) → times k list ≤ 1
cone_once nodes bodies cells y list w k =
    let risen : List ℕ = filter (has list) (ids_of nodes) in
    let same : times k list ≡ times k risen =
    ap (times k) (w.cone).falling ∙ sum_by-IsPermutation (λ n. if nat_eq n k then 1 else 0) risen (reverse risen) (IsPermutation-reverse risen) in
    omega (arith, same, once k risen (apart-filter (has list) (ids_of nodes) (ids-apart nodes bodies w.graph)))

pub spent_next : (nodes : List GraphNode) (bodies : Bodies) (cells : Found ℕ) (y : ℕ) (list : List ℕ) → IsSweep nodes bodies cells y list
    → (i n a b start : ℕ) (found : Spans ℕ) → i < length list → b ≤ a + next_cost nodes bodies y found n
    → AreFound (sensitivities nodes bodies y) (take i list) found
    → a + sum_by (cost_at bodies y list) (drop i list) ≤ start + sum_by (cost_at bodies y list) list → get_or list i 0 ≡ n
    → b + sum_by (cost_at bodies y list) (drop (i + 1) list) ≤ start + sum_by (cost_at bodies y list) list
spent_next nodes bodies cells y list w i n a b start found within more h spent at =
    let step : sum_by (cost_at bodies y list) (drop i list) ≡ cost_at bodies y list n + sum_by (cost_at bodies y list) (drop (i + 1) list) =
    sum_by-drop_more (cost_at bodies y list) list i 0 within
    ∙ ap (λ k. cost_at bodies y list k + sum_by (cost_at bodies y list) (drop (i + 1) list)) at in
    omega (arith, step, more, spent, cost_is nodes bodies cells y list w i n within at found h)

pub spent_all : (nodes : List GraphNode) (bodies : Bodies) (cells : Found ℕ) (y : ℕ) (list : List ℕ) → IsSweep nodes bodies cells y list
    → (i a start : ℕ) → a + sum_by (cost_at bodies y list) (drop i list) ≤ start + sum_by (cost_at bodies y list) list
    → a ≤ start + gradient_cost bodies list
spent_all nodes bodies cells y list w i a start spent =
    omega (arith, spent, cone_costs bodies y list (cone_once nodes bodies cells y list w))
