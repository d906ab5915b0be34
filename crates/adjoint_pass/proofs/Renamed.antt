-- Cones and sensitivities under new keys.
use Rattle.std.specs.Prelude.{◌≡◌, ℕ, zero, suc, Bool, true, if◌then◌else◌, cond, ◌||◌, List, [], ◌∷◌, map, find, length, reverse, Option, Some, None, is_some, refl}
use Rattle.std.specs.List.{AllByRecursion, AllZip, list_any}
use Rattle.std.proofs.Common.{sym, ◌∙◌, ap, ap₂}
use Rattle.exact_law.specs.Model.{IsSameTest}
use Rattle.exact_law.specs.Renaming.{KeepsApart, Passes}
use Rattle.fixed_interval.specs.Interval.{Interval, point_span}
use Rattle.fixed_interval.specs.Rules.{one_bound, product_span}
use Rattle.fixed_interval.specs.Sums.{both, sum_of}
use Rattle.formula_ast.specs.Trees.{Tree, uses, names_of}
use Rattle.value_cache.specs.Quantities.{Body, Input, Function, Column, Quantity, is_there, used_by}
use Rattle.value_cache.specs.Evaluations.{span_in, evaluation_of}
use Rattle.value_cache.proofs.Names.{find-distinct}
use Rattle.adjoint_pass.specs.Sweep.{Node, users, sensitivity_through, sensitivity, is_in_cone_through, is_in_cone, cone}
use Rattle.adjoint_pass.specs.Sensitivities.{uses_of, partial_by, part_of, node_of, span_at, nodes_of, depends_on, cone_of, sensitivity_of, has_gradient, gradient_of}
use Rattle.value_cache.specs.Renaming.{IsRenamedBody, AreRenamed}
use Rattle.adjoint_pass.proofs.Lists.{all_weaker, any_same}
use Rattle.adjoint_pass.proofs.Zips.{length-zip, zip-reverse, zip-map, zip-filter, map-zip, any-zip, all-zip}
use Rattle.adjoint_pass.proofs.Partials.{any-map}
use Rattle.adjoint_pass.proofs.Formulas.{names_of_uses, partial_same}
use Rattle.adjoint_pass.proofs.RenamedValues.{each_name, IsRenamedOn, each_renamed, span-renamed, evaluation_of-renamed}

-- ---- nodes
pub record IsRenamedNode {K L : Type 0} (rename : K → L) (P : K → Type 0) (m : Node K) (m' : Node L) : Type 0 where
  pub key : m'.key ≡ rename m.key
  pub passes : P m.key
  pub uses : (n : K) → P n → m'.uses (rename n) ≡ m.uses n
  pub part : (n : K) → P n → m'.part (rename n) ≡ m.part n

users-renamed : {K L : Type 0} (rename : K → L) (P : K → Type 0) (nodes : List (Node K)) (others : List (Node L))
    → AllZip (IsRenamedNode rename P) nodes others → (n : K) → P n → AllZip (IsRenamedNode rename P) (users n nodes) (users (rename n) others)
users-renamed rename P nodes others z n p =
    zip-filter (IsRenamedNode rename P) (λ m. m.uses n) (λ m. m.uses (rename n)) (λ m m' r. r.uses n p) nodes others z

cone_through-renamed : {K L : Type 0} (same : K → K → Bool) (same' : L → L → Bool) (rename : K → L) (P : K → Type 0) → KeepsApart same same' rename P
    → (nodes : List (Node K)) (others : List (Node L)) → AllZip (IsRenamedNode rename P) nodes others → (y : K) → P y → (k : ℕ) (n : K) → P n
    → is_in_cone_through same' others (rename y) k (rename n) ≡ is_in_cone_through same nodes y k n
cone_through-renamed same same' rename P apart nodes others z y py zero n p = refl
cone_through-renamed same same' rename P apart nodes others z y py (suc k) n p =
    ap₂ (λ a b. a || b) (apart.apart n y p py)
    (any-zip (IsRenamedNode rename P) (λ m. is_in_cone_through same nodes y k m.key) (λ m. is_in_cone_through same' others (rename y) k m.key)
    (λ m m' r. ap (is_in_cone_through same' others (rename y) k) r.key ∙ cone_through-renamed same same' rename P apart nodes others z y py k m.key r.passes)
    (users n nodes) (users (rename n) others) (users-renamed rename P nodes others z n p))

is_in_cone-renamed : {K L : Type 0} (same : K → K → Bool) (same' : L → L → Bool) (rename : K → L) (P : K → Type 0) → KeepsApart same same' rename P
    → (nodes : List (Node K)) (others : List (Node L)) → AllZip (IsRenamedNode rename P) nodes others → (y : K) → P y → (n : K) → P n
    → is_in_cone same' others (rename y) (rename n) ≡ is_in_cone same nodes y n
unfolding is_in_cone
is_in_cone-renamed same same' rename P apart nodes others z y py n p =
    ap (λ k. is_in_cone_through same' others (rename y) (suc k) (rename n)) (sym (length-zip (IsRenamedNode rename P) nodes others z))
    ∙ cone_through-renamed same same' rename P apart nodes others z y py (suc (length nodes)) n p

cone-renamed : {K L : Type 0} (same : K → K → Bool) (same' : L → L → Bool) (rename : K → L) (P : K → Type 0) → KeepsApart same same' rename P
    → (nodes : List (Node K)) (others : List (Node L)) → AllZip (IsRenamedNode rename P) nodes others → (y : K) → P y
    → AllZip (IsRenamedNode rename P) (cone same nodes y) (cone same' others (rename y))
cone-renamed same same' rename P apart nodes others z y py =
    zip-filter (IsRenamedNode rename P) (λ m. is_in_cone same nodes y m.key) (λ m. is_in_cone same' others (rename y) m.key)
    (λ m m' r. ap (is_in_cone same' others (rename y)) r.key ∙ is_in_cone-renamed same same' rename P apart nodes others z y py m.key r.passes)
    nodes others z

through-renamed : {K L : Type 0} (same : K → K → Bool) (same' : L → L → Bool) (rename : K → L) (P : K → Type 0) → KeepsApart same same' rename P
    → (nodes : List (Node K)) (others : List (Node L)) → AllZip (IsRenamedNode rename P) nodes others → (y : K) → P y → (k : ℕ) (n : K) → P n
    → sensitivity_through same' others (rename y) k (rename n) ≡ sensitivity_through same nodes y k n
through-renamed same same' rename P apart nodes others z y py zero n p = refl
through-renamed same same' rename P apart nodes others z y py (suc k) n p =
    ap₂ (λ b ts. if b then Some (point_span one_bound) else sum_of ts) (apart.apart n y p py)
    (map-zip (IsRenamedNode rename P) (λ m. both (sensitivity_through same nodes y k m.key) (m.part n) product_span)
    (λ m. both (sensitivity_through same' others (rename y) k m.key) (m.part (rename n)) product_span)
    (λ m m' r. ap₂ (λ a b. both a b product_span)
    (ap (sensitivity_through same' others (rename y) k) r.key ∙ through-renamed same same' rename P apart nodes others z y py k m.key r.passes) (r.part n p))
    (users n nodes) (users (rename n) others) (users-renamed rename P nodes others z n p))

sensitivity-renamed : {K L : Type 0} (same : K → K → Bool) (same' : L → L → Bool) (rename : K → L) (P : K → Type 0) → KeepsApart same same' rename P
    → (nodes : List (Node K)) (others : List (Node L)) → AllZip (IsRenamedNode rename P) nodes others → (y : K) → P y → (n : K) → P n
    → sensitivity same' others (rename y) (rename n) ≡ sensitivity same nodes y n
unfolding sensitivity
sensitivity-renamed same same' rename P apart nodes others z y py n p =
    ap (λ k. sensitivity_through same' others (rename y) (suc k) (rename n)) (sym (length-zip (IsRenamedNode rename P) nodes others z))
    ∙ through-renamed same same' rename P apart nodes others z y py (suc (length nodes)) n p

-- ---- quantities as nodes
uses-renamed : {K L : Type 0} (same : K → K → Bool) (same' : L → L → Bool) (rename : K → L) (P : K → Type 0) → KeepsApart same same' rename P
    → (ns : List K) → AllByRecursion P ns → (n : K) → P n → list_any (λ m. same' m (rename n)) (map rename ns) ≡ list_any (λ m. same m n) ns
uses-renamed same same' rename P apart ns h n p =
    any-map (λ m. same' m (rename n)) rename ns
    ∙ any_same _ _ ns (all_weaker P (λ m. same' (rename m) (rename n) ≡ same m n) (λ m pm. apart.apart m n pm p) ns h)

find_same : {X : Type 0} (p q : X → Bool) (xs : List X) → AllByRecursion (λ x. p x ≡ q x) xs → find p xs ≡ find q xs
find_same p q [] h = refl
find_same p q (x ∷ xs) h = ap₂ (λ b o. cond b (Some x) o) h.0 (find_same p q xs h.1)

-- the spans of the quantities are the same under the new keys
abbrev SameSpans : {K L : Type 0} → (K → L) → (K → Type 0) → (K → Option Interval) → (L → Option Interval) → Type 0
SameSpans rename P given others = (n : _) → P n → others (rename n) ≡ given n

function_part-renamed : {K L : Type 0} (same : K → K → Bool) (same' : L → L → Bool) (rename : K → L) (P : K → Type 0) → KeepsApart same same' rename P
    → (given : K → Option Interval) (others : L → Option Interval) → SameSpans rename P given others
    → (f : Tree) (key : List ℕ → K) (other : List ℕ → L) → map other (uses f) ≡ map rename (map key (uses f)) → AllByRecursion P (map key (uses f))
    → (n : K) → P n → part_of same' others (Function f other) (rename n) ≡ part_of same given (Function f key) n
function_part-renamed same same' rename P apart given others spans f key other e h n p =
    let each = each_name rename P f key other e h in
    ap (partial_by (λ m. others (other m)) f)
    (find-distinct (λ m. same' (other m) (rename n)) (uses f)
    ∙ find_same _ _ (uses f)
    (all_weaker _ (λ m. same' (other m) (rename n) ≡ same (key m) n) (λ m r. ap (λ k. same' k (rename n)) r.1 ∙ apart.apart (key m) n r.0 p) (uses f) each)
    ∙ sym (find-distinct (λ m. same (key m) n) (uses f)))
    ∙ partial_same (λ m. others (other m)) (λ m. given (key m)) f (find (λ m. same (key m) n) (names_of f))
    (names_of_uses _ f (all_weaker _ (λ m. others (other m) ≡ given (key m)) (λ m r. ap others r.1 ∙ spans (key m) r.0) (uses f) each))

node-renamed : {K L : Type 0} (same : K → K → Bool) (same' : L → L → Bool) (rename : K → L) (P : K → Type 0) → KeepsApart same same' rename P
    → (given : K → Option Interval) (others : L → Option Interval) → SameSpans rename P given others
    → (q : Quantity K) (r : Quantity L) → IsRenamedOn rename P q r → IsRenamedNode rename P (node_of same given q) (node_of same' others r)
node-renamed same same' rename P apart given others spans q r h = record {
  key = h.key;
  passes = h.passes;
  uses = λ n p. uses_by q.body r.body h.body h.uses_pass n p;
  part = λ n p. part_by q.body r.body h.body h.uses_pass n p;
} where
  uses_by : (b : Body _) (b' : Body _) → IsRenamedBody rename b b' → AllByRecursion P (used_by b) → (n : _) → P n
      → uses_of same' b' (rename n) ≡ uses_of same b n
  uses_by (Input estimate) b' e all n p = ap (λ b. uses_of same' b (rename n)) e
  uses_by (Function f key) b' e all n p =
      ap (λ b. uses_of same' b (rename n)) e.1 ∙ ap (list_any (λ m. same' m (rename n))) e.2
      ∙ uses-renamed same same' rename P apart (map key (uses f)) all n p
  uses_by (Column t column) b' e all n p = ap (λ b. uses_of same' b (rename n)) e

  part_by : (b : Body _) (b' : Body _) → IsRenamedBody rename b b' → AllByRecursion P (used_by b) → (n : _) → P n
      → part_of same' others b' (rename n) ≡ part_of same given b n
  part_by (Input estimate) b' e all n p = ap (λ b. part_of same' others b (rename n)) e
  part_by (Function f key) b' e all n p =
      ap (λ b. part_of same' others b (rename n)) e.1
      ∙ function_part-renamed same same' rename P apart given others spans f key e.0 e.2 all n p
  part_by (Column t column) b' e all n p = ap (λ b. part_of same' others b (rename n)) e

-- ---- quantities in order under new keys
nodes_of-renamed : {K L : Type 0} (same : K → K → Bool) → IsSameTest same → (same' : L → L → Bool) (rename : K → L) (qs : List (Quantity K)) (rs : List (Quantity L))
    → AreRenamed same same' rename qs rs → AllZip (IsRenamedNode rename (Passes (is_there same qs))) (nodes_of same qs) (nodes_of same' rs)
nodes_of-renamed same law same' rename qs rs h =
    let P = Passes (is_there same qs) in
    zip-map (IsRenamedOn rename P) (IsRenamedNode rename P) (node_of same (span_at same qs)) (node_of same' (span_at same' rs))
    (node-renamed same same' rename P h.apart (span_at same qs) (span_at same' rs)
    (λ n there. ap span_in (evaluation_of-renamed same law same' rename qs rs h n there) ∙ span-renamed rename (evaluation_of same qs n)))
    (reverse qs) (reverse rs) (zip-reverse (IsRenamedOn rename P) qs rs (each_renamed same law same' rename qs rs h))

pub depends_on-renamed : {K L : Type 0} (same : K → K → Bool) → IsSameTest same → (same' : L → L → Bool) (rename : K → L) (qs : List (Quantity K)) (rs : List (Quantity L))
    → AreRenamed same same' rename qs rs → (y n : K) → is_there same qs y ≡ true → is_there same qs n ≡ true
    → depends_on same' rs (rename y) (rename n) ≡ depends_on same qs y n
depends_on-renamed same law same' rename qs rs h y n py p =
    is_in_cone-renamed same same' rename (Passes (is_there same qs)) h.apart (nodes_of same qs) (nodes_of same' rs)
    (nodes_of-renamed same law same' rename qs rs h) y py n p

cone_of-renamed : {K L : Type 0} (same : K → K → Bool) → IsSameTest same → (same' : L → L → Bool) (rename : K → L) (qs : List (Quantity K)) (rs : List (Quantity L))
    → AreRenamed same same' rename qs rs → (y : K) → is_there same qs y ≡ true
    → AllZip (IsRenamedNode rename (Passes (is_there same qs))) (cone_of same qs y) (cone_of same' rs (rename y))
cone_of-renamed same law same' rename qs rs h y py =
    cone-renamed same same' rename (Passes (is_there same qs)) h.apart (nodes_of same qs) (nodes_of same' rs)
    (nodes_of-renamed same law same' rename qs rs h) y py

pub sensitivity_of-renamed : {K L : Type 0} (same : K → K → Bool) → IsSameTest same → (same' : L → L → Bool) (rename : K → L) (qs : List (Quantity K)) (rs : List (Quantity L))
    → AreRenamed same same' rename qs rs → (y n : K) → is_there same qs y ≡ true → is_there same qs n ≡ true
    → sensitivity_of same' rs (rename y) (rename n) ≡ sensitivity_of same qs y n
unfolding sensitivity_of
sensitivity_of-renamed same law same' rename qs rs h y n py p =
    sensitivity-renamed same same' rename (Passes (is_there same qs)) h.apart (cone_of same qs y) (cone_of same' rs (rename y))
    (cone_of-renamed same law same' rename qs rs h y py) y py n p

pub has_gradient-renamed : {K L : Type 0} (same : K → K → Bool) → IsSameTest same → (same' : L → L → Bool) (rename : K → L) (qs : List (Quantity K)) (rs : List (Quantity L))
    → AreRenamed same same' rename qs rs → (y : K) → is_there same qs y ≡ true → has_gradient same' rs (rename y) ≡ has_gradient same qs y
has_gradient-renamed same law same' rename qs rs h y py =
    all-zip (IsRenamedNode rename (Passes (is_there same qs))) (λ m. is_some (sensitivity_of same qs y m.key)) (λ m. is_some (sensitivity_of same' rs (rename y) m.key))
    (λ m m' r. ap (λ k. is_some (sensitivity_of same' rs (rename y) k)) r.key
    ∙ ap is_some (sensitivity_of-renamed same law same' rename qs rs h y m.key py r.passes))
    (cone_of same qs y) (cone_of same' rs (rename y)) (cone_of-renamed same law same' rename qs rs h y py)

pub gradient_of-renamed : {K L : Type 0} (same : K → K → Bool) → IsSameTest same → (same' : L → L → Bool) (rename : K → L) (qs : List (Quantity K)) (rs : List (Quantity L))
    → AreRenamed same same' rename qs rs → (y n : K) → is_there same qs y ≡ true → is_there same qs n ≡ true
    → gradient_of same' rs (rename y) (rename n) ≡ gradient_of same qs y n
gradient_of-renamed same law same' rename qs rs h y n py p =
    ap₂ (λ b o. if b then o else None) (depends_on-renamed same law same' rename qs rs h y n py p) (sensitivity_of-renamed same law same' rename qs rs h y n py p)
