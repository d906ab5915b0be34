-- Cells by numbers: the cell of a quantity is its evaluation, once that is found. Each is what one row gives under
-- the cells of the quantities that the row uses. Which cells are kept is this project's own rule.
use Rattle.std.specs.Prelude.{◌≡◌, ℕ, Bool, true, nat_eq, if◌then◌else◌, List, [], ◌∷◌, Option, None, Some, is_some, sum_by}
use Rattle.std.specs.List.{list_all}
use Rattle.std.specs.Option.{option_or}
use Rattle.dep_graph.specs.Nodes.{Node, has, ids_of, uses_in}
use Rattle.formula_box.specs.Costs.{value_cost}
use Rattle.value_cache.specs.Quantities.{Body, Input, Function, Column, Quantity, used_by}
use Rattle.value_cache.specs.Evaluations.{Found, is_fault, evaluation_of_body}
use Rattle.value_cache.specs.Evaluable.{AreInOrder}
use Rattle.value_cache.specs.declared.evaluation.Evaluation.{Evaluation}

-- bodies by numbers
abbrev pub Bodies : Type 0
Bodies = ℕ → Option (Body ℕ)

abbrev pub uses_of : Option (Body ℕ) → List ℕ
uses_of None = []
uses_of (Some body) = used_by body

-- ---- the rule of one row
-- each of these has a cell
abbrev pub are_found : Found ℕ → List ℕ → Bool
are_found cells ms = list_all (λ m. is_some (cells m)) ms

-- what the row of n gives under these cells: nothing where a quantity that it uses has no cell
unfoldable pub cell_by : Found ℕ → ℕ → Option (Body ℕ) → Option (Evaluation ℕ)
cell_by cells n body = if are_found cells (uses_of body) then evaluation_of_body cells n body else None

-- each cell is what its row gives under these cells; so all that a quantity with a cell rests on has cells
pub record AreRight (bodies : Bodies) (cells : Found ℕ) : Type 0 where
  pub each : (n : ℕ) (cell : Evaluation ℕ) → cells n ≡ Some cell → cell_by cells n (bodies n) ≡ Some cell

-- all that has a cell keeps it
abbrev pub AreKept : Found ℕ → Found ℕ → Type 0
AreKept old new = (n : ℕ) (cell : Evaluation ℕ) → old n ≡ Some cell → new n ≡ Some cell

-- the fault of a quantity, where it has one
abbrev pub fault_of : Found ℕ → ℕ → Option (Evaluation ℕ)
fault_of cells m = if is_fault (cells m) then cells m else None

-- the fault of the first of these that has one
abbrev pub fault_among : Found ℕ → List ℕ → Option (Evaluation ℕ)
fault_among cells [] = None
fault_among cells (m ∷ ms) = option_or (fault_of cells m) (fault_among cells ms)

-- ---- what it costs to find cells
-- how many spans a row makes at most: one for an input, one for a mean
abbrev pub cost_of : Option (Body ℕ) → ℕ
cost_of None = 0
cost_of (Some (Input estimate)) = 1
cost_of (Some (Function f key)) = value_cost f
cost_of (Some (Column t column)) = 1

-- the cost of those that have no cell
abbrev pub work : Bodies → Found ℕ → List ℕ → ℕ
work bodies cells ns = sum_by (λ n. if is_some (cells n) then 0 else cost_of (bodies n)) ns

-- ---- the graph of the bodies
abbrev pub before : ℕ → Option (Body ℕ) → List (Quantity ℕ) → List (Quantity ℕ)
before n None qs = qs
before n (Some body) qs = record { key = n; body = body } ∷ qs

-- the quantities of these numbers, in this order
abbrev pub numbered : Bodies → List ℕ → List (Quantity ℕ)
numbered bodies [] = []
numbered bodies (n ∷ ns) = before n (bodies n) (numbered bodies ns)

-- the nodes are the quantities that have bodies, in an order of the bodies
pub record IsGraphOf (nodes : List Node) (bodies : Bodies) : Type 0 where
  pub placed : (n : ℕ) → has (ids_of nodes) n ≡ is_some (bodies n)
  -- a node uses the quantities that its body uses, as often as it may list them
  pub uses : (n m : ℕ) → has (uses_in nodes n) m ≡ has (uses_of (bodies n)) m
  -- no two nodes are the same, and each uses those before it alone
  pub earlier : AreInOrder nat_eq [] (numbered bodies (ids_of nodes))

-- each of these uses those after it alone
abbrev pub AreFalling : Bodies → List ℕ → Type 0
AreFalling bodies [] = Unit {0}
AreFalling bodies (n ∷ ns) = ((m : ℕ) → has (uses_of (bodies n)) m ≡ true → has ns m ≡ true) × AreFalling bodies ns
