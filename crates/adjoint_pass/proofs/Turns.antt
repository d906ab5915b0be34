-- Nodes in an order in which each stands after all that use it: as many turns as there are nodes are enough, so that
-- sensitivities and cones solve their equations.
use Rattle.std.specs.Prelude.{◌≡◌, ℕ, zero, suc, ◌<◌, ◌≤◌, Bool, true, false, if◌then◌else◌, ◌||◌, List, [], ◌∷◌, length, filter, Option, Some, refl}
use Rattle.std.specs.List.{AllByRecursion, list_any}
use Rattle.std.proofs.Common.{sym, ◌∙◌, ap, arith}
use Rattle.std.proofs.lemmas.Bool.{true≢false}
use Rattle.exact_law.specs.Model.{IsSameTest}
use Rattle.fixed_interval.specs.Interval.{Interval, point_span}
use Rattle.fixed_interval.specs.Rules.{one_bound, product_span}
use Rattle.fixed_interval.specs.Sums.{both, sum_of}
use Rattle.adjoint_pass.specs.Sweep.{Node, users, terms, sensitivity_through, sensitivity, is_in_cone_through, is_in_cone}
use Rattle.adjoint_pass.proofs.Lists.{all_weaker, all_from_both, all_passing, all_filtered, map_same, any_same}

-- no node uses itself or one before it
abbrev pub AreFalling : {K : Type 0} → List (Node K) → Type 0
AreFalling [] = Unit {0}
AreFalling (m ∷ ms) = AllByRecursion (λ u. u.uses m.key ≡ false) (m ∷ ms) × AreFalling ms

-- nodes that are left out leave the others in order
pub falling-filter : {K : Type 0} (p : Node K → Bool) (nodes : List (Node K)) → AreFalling nodes → AreFalling (filter p nodes)
falling-filter p [] h = tt
falling-filter p (m ∷ ms) h = by (p m) (falling-filter p ms h.1) where
  by : (b : Bool) → AreFalling (filter p ms) → AreFalling (if b then m ∷ filter p ms else filter p ms)
  by true rest = (((h.0).0, all_filtered (λ u. u.uses m.key ≡ false) p ms (h.0).1), rest)
  by false rest = rest

-- how many nodes stand before the first of this key
abbrev pub place : {K : Type 0} → (K → K → Bool) → List (Node K) → K → ℕ
place same [] n = zero
place same (m ∷ ms) n = if same m.key n then zero else suc (place same ms n)

place_within : {K : Type 0} (same : K → K → Bool) (nodes : List (Node K)) (n : K) → place same nodes n ≤ length nodes
place_within same [] n = omega arith
place_within same (m ∷ ms) n = by (same m.key n) (place_within same ms n) where
  by : (b : Bool) → place same ms n ≤ length ms → (if b then zero else suc (place same ms n)) ≤ suc (length ms)
  by true h = omega arith
  by false h = omega (arith, h)

-- a node stands before all that it uses
pub rising : {K : Type 0} (same : K → K → Bool) → IsSameTest same → (nodes : List (Node K)) → AreFalling nodes
    → AllByRecursion (λ m. (n : K) → m.uses n ≡ true → place same nodes m.key < place same nodes n) nodes
rising same law [] h = tt
rising same law (m ∷ ms) h = (
  λ n u. first n u (same m.key n) refl,
  all_from_both _ _ _ (λ u unused before n e. later u unused n e (before n e) (same m.key n) refl) ms (h.0).1 (rising same law ms h.1),
) where
  first : (n : _) → m.uses n ≡ true → (b : Bool) → same m.key n ≡ b
      → place same (m ∷ ms) m.key < (if b then zero else suc (place same ms n))
  first n u true e = absurd (true≢false (sym u ∙ ap m.uses (sym (law.sound m.key n e)) ∙ (h.0).0))
  first n u false e = rw (law.complete m.key) (omega arith)

  later : (u : Node _) → u.uses m.key ≡ false → (n : _) → u.uses n ≡ true → place same ms u.key < place same ms n
      → (b : Bool) → same m.key n ≡ b → place same (m ∷ ms) u.key < (if b then zero else suc (place same ms n))
  later u unused n e before true f = absurd (true≢false (sym e ∙ ap u.uses (sym (law.sound m.key n f)) ∙ unused))
  later u unused n e before false f = by (same m.key u.key) where
    by : (b : Bool) → (if b then zero else suc (place same ms u.key)) < suc (place same ms n)
    by true = omega arith
    by false = omega (arith, before)

pub users_before : {K : Type 0} (same : K → K → Bool) → IsSameTest same → (nodes : List (Node K)) → AreFalling nodes → (n : K)
    → AllByRecursion (λ m. place same nodes m.key < place same nodes n) (users n nodes)
users_before same law nodes h n =
    all_passing (λ m. place same nodes m.key < place same nodes n) (λ m. m.uses n) nodes
    (all_weaker _ (λ m. m.uses n ≡ true → place same nodes m.key < place same nodes n) (λ m before. before n) nodes (rising same law nodes h))

-- ---- what is found turn by turn, at each key from what the turn before found at its users
pub record IsByTurns {K V : Type 0} (nodes : List (Node K)) (found : ℕ → K → V) : Type 0 where
  pub turn : (j k : ℕ) (n : K) → AllByRecursion (λ m. found j m.key ≡ found k m.key) (users n nodes) → found (suc j) n ≡ found (suc k) n

-- at the places before turn k nothing changes any more
settled : {K V : Type 0} (same : K → K → Bool) → IsSameTest same → (nodes : List (Node K)) → AreFalling nodes
    → (found : ℕ → K → V) → IsByTurns nodes found → (k : ℕ) (n : K) → place same nodes n < k → found (suc k) n ≡ found k n
settled same law nodes h found turns zero n e = absurd (omega (arith, e))
settled same law nodes h found turns (suc k) n e =
    turns.turn (suc k) k n
    (all_weaker (λ m. place same nodes m.key < place same nodes n) (λ m. found (suc k) m.key ≡ found k m.key)
    (λ m before. settled same law nodes h found turns k m.key (omega (arith, before, e))) (users n nodes) (users_before same law nodes h n))

-- so after as many turns as there are nodes the users have come to their end
users_settled : {K V : Type 0} (same : K → K → Bool) → IsSameTest same → (nodes : List (Node K)) → AreFalling nodes
    → (found : ℕ → K → V) → IsByTurns nodes found → (n : K)
    → AllByRecursion (λ m. found (length nodes) m.key ≡ found (suc (length nodes)) m.key) (users n nodes)
users_settled same law nodes h found turns n =
    all_weaker (λ m. place same nodes m.key < place same nodes n) (λ m. found (length nodes) m.key ≡ found (suc (length nodes)) m.key)
    (λ m before. sym (settled same law nodes h found turns (length nodes) m.key (omega (arith, before, place_within same nodes n))))
    (users n nodes) (users_before same law nodes h n)

-- ---- sensitivities
terms_same : {K : Type 0} (f g : K → Option Interval) (n : K) (nodes : List (Node K)) → AllByRecursion (λ m. f m.key ≡ g m.key) (users n nodes)
    → terms f n nodes ≡ terms g n nodes
terms_same f g n nodes h =
    map_same _ _ (users n nodes)
    (all_weaker (λ m. f m.key ≡ g m.key) (λ m. both (f m.key) (m.part n) product_span ≡ both (g m.key) (m.part n) product_span)
    (λ m e. ap (λ s. both s (m.part n) product_span) e) (users n nodes) h)

pub sensitivity-turns : {K : Type 0} (same : K → K → Bool) (nodes : List (Node K)) (y : K) → IsByTurns nodes (sensitivity_through same nodes y)
sensitivity-turns same nodes y = record {
  turn = λ j k n h. ap (λ ts. if same n y then Some (point_span one_bound) else sum_of ts) (terms_same _ _ n nodes h);
}

pub sensitivity_solves : {K : Type 0} (same : K → K → Bool) → IsSameTest same → (nodes : List (Node K)) → AreFalling nodes → (y n : K)
    → sensitivity same nodes y n ≡ (if same n y then Some (point_span one_bound) else sum_of (terms (sensitivity same nodes y) n nodes))
unfolding sensitivity
sensitivity_solves same law nodes h y n =
    ap (λ ts. if same n y then Some (point_span one_bound) else sum_of ts)
    (terms_same _ _ n nodes (users_settled same law nodes h (sensitivity_through same nodes y) (sensitivity-turns same nodes y) n))

-- ---- cones
pub cone-turns : {K : Type 0} (same : K → K → Bool) (nodes : List (Node K)) (y : K) → IsByTurns nodes (is_in_cone_through same nodes y)
cone-turns same nodes y = record { turn = λ j k n h. ap (λ b. same n y || b) (any_same _ _ (users n nodes) h) }

pub cone_closed : {K : Type 0} (same : K → K → Bool) → IsSameTest same → (nodes : List (Node K)) → AreFalling nodes → (y n : K)
    → is_in_cone same nodes y n ≡ (same n y || list_any (λ m. is_in_cone same nodes y m.key) (users n nodes))
unfolding is_in_cone
cone_closed same law nodes h y n =
    ap (λ b. same n y || b)
    (any_same _ _ (users n nodes) (users_settled same law nodes h (is_in_cone_through same nodes y) (cone-turns same nodes y) n))
