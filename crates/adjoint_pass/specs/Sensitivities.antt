-- The sensitivities of a quantity among others, each an input, a mean of readings or a formula.
use Rattle.std.specs.Prelude.{◌≡◌, ℕ, Bool, if◌then◌else◌, bytes_eq, List, [], ◌∷◌, map, find, reverse, Option, None, Some, is_some}
use Rattle.std.specs.List.{list_any, list_all}
use Rattle.fixed_interval.specs.Interval.{Interval}
use Rattle.fixed_interval.specs.Sums.{zero_span}
use Rattle.formula_ast.specs.Trees.{Tree, names_of}
use Rattle.formula_box.specs.Slopes.{there, partial_of}
use Rattle.value_cache.specs.Quantities.{Body, Input, Function, Column, Quantity, used_by}
use Rattle.value_cache.specs.Evaluations.{span_in, evaluation_of}
use Rattle.covariance.specs.Gradients.{Spans}
use Rattle.adjoint_pass.specs.Sweep.{Node, sensitivity, is_in_cone, cone}

-- ---- quantities as nodes
abbrev pub uses_of : {K : Type 0} → (K → K → Bool) → Body K → K → Bool
uses_of same body n = list_any (λ m. same m n) (used_by body)

-- the partial derivative of the formula by a name, where it has one that stands for the quantity
abbrev pub partial_by : (List ℕ → Option Interval) → Tree → Option (List ℕ) → Option Interval
partial_by given f None = Some zero_span
partial_by given f (Some name) = there (partial_of given name f)

-- the partial derivative of a body by the quantity n, where these are the spans of the quantities
abbrev pub part_of : {K : Type 0} → (K → K → Bool) → (K → Option Interval) → Body K → K → Option Interval
part_of same given (Input estimate) n = Some zero_span
part_of same given (Function f key) n = partial_by (λ name. given (key name)) f (find (λ name. same (key name) n) (names_of f))
part_of same given (Column t column) n = Some zero_span

abbrev pub node_of : {K : Type 0} → (K → K → Bool) → (K → Option Interval) → Quantity K → Node K
node_of same given q = record { key = q.key; uses = uses_of same q.body; part = part_of same given q.body }

-- the span of a quantity's value, where it has one
abbrev pub span_at : {K : Type 0} → (K → K → Bool) → List (Quantity K) → K → Option Interval
span_at same qs n = span_in (evaluation_of same qs n)

-- the quantities, the last first
abbrev pub nodes_of : {K : Type 0} → (K → K → Bool) → List (Quantity K) → List (Node K)
nodes_of same qs = map (node_of same (span_at same qs)) (reverse qs)

-- ---- the sensitivities of y
-- y depends on n, or is n
abbrev pub depends_on : {K : Type 0} → (K → K → Bool) → List (Quantity K) → K → K → Bool
depends_on same qs y n = is_in_cone same (nodes_of same qs) y n

-- y and the quantities on which it depends, the last first
abbrev pub cone_of : {K : Type 0} → (K → K → Bool) → List (Quantity K) → K → List (Node K)
cone_of same qs y = cone same (nodes_of same qs) y

-- the sensitivity of y to n; None where an operation for it leaves the range of bounds
unfoldable pub sensitivity_of : {K : Type 0} → (K → K → Bool) → List (Quantity K) → K → K → Option Interval
sensitivity_of same qs y n = sensitivity same (cone_of same qs y) y n

-- no sensitivity of y to a quantity on which it depends leaves the range of bounds
abbrev pub has_gradient : {K : Type 0} → (K → K → Bool) → List (Quantity K) → K → Bool
has_gradient same qs y = list_all (λ m. is_some (sensitivity_of same qs y m.key)) (cone_of same qs y)

-- the sensitivities of y to the quantities on which it depends, and none to others
abbrev pub gradient_of : {K : Type 0} → (K → K → Bool) → List (Quantity K) → K → Spans K
gradient_of same qs y n = if depends_on same qs y n then sensitivity_of same qs y n else None

-- ---- conditions
-- the names of a formula stand for different quantities
abbrev pub KeepsNamesApart : {K : Type 0} → (K → K → Bool) → Body K → Type 0
KeepsNamesApart same (Input estimate) = Unit {0}
KeepsNamesApart same (Function f key) = (m n : List ℕ) → same (key m) (key n) ≡ bytes_eq m n
KeepsNamesApart same (Column t column) = Unit {0}

abbrev pub AllKeepNamesApart : {K : Type 0} → (K → K → Bool) → List (Quantity K) → Type 0
AllKeepNamesApart same [] = Unit {0}
AllKeepNamesApart same (q ∷ qs) = KeepsNamesApart same q.body × AllKeepNamesApart same qs
