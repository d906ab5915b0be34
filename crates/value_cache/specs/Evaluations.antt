-- The evaluation of a quantity: the span of its value, or the fault that stands in its place. It is found
-- through the quantities that each uses, in whatever order these are listed.
use Rattle.std.specs.Prelude.{ℕ, zero, suc, Bool, true, false, if◌then◌else◌, List, [], ◌∷◌, length, Option, Some, None, Ok, Err}
use Rattle.std.specs.Option.{option_or, option_map}
use Rattle.fixed_interval.specs.Interval.{Interval, point_span}
use Rattle.formula_ast.specs.Trees.{Tree, uses}
use Rattle.type_a.specs.Statistics.{mean_span}
use Rattle.formula_box.specs.Values.{Answer, span_of}
use Rattle.formula_box.specs.declared.fault.EvalFault.TheVariants.{Arith, NoValue}
use Rattle.value_cache.specs.Quantities.{Body, Input, Function, Column, Quantity, body_of}
use Rattle.value_cache.specs.declared.evaluation.Evaluation.{Evaluation}
use Rattle.value_cache.specs.declared.evaluation.Evaluation.TheVariants.{Enclosed, Fault}

-- evaluations by keys
abbrev pub Found : Type 0 → Type 0
Found K = K → Option (Evaluation K)

-- the evaluations for which the names in a formula stand
abbrev pub Named : Type 0 → Type 0
Named K = List ℕ → Option (Evaluation K)

abbrev pub span_in : {K : Type 0} → Option (Evaluation K) → Option Interval
span_in None = None
span_in (Some (Fault fault row)) = None
span_in (Some (Enclosed s)) = Some s

abbrev pub is_fault : {K : Type 0} → Option (Evaluation K) → Bool
is_fault None = false
is_fault (Some (Fault fault row)) = true
is_fault (Some (Enclosed s)) = false

-- the fault of a name, where it has one
abbrev pub fault_at : {K : Type 0} → Named K → List ℕ → Option (Evaluation K)
fault_at found n = if is_fault (found n) then found n else None

-- the fault of the first of these names that has one
abbrev pub first_fault : {K : Type 0} → Named K → List (List ℕ) → Option (Evaluation K)
first_fault found [] = None
first_fault found (n ∷ ns) = option_or (fault_at found n) (first_fault found ns)

-- the fault of an operation arose in this row; a name without a span hands on the fault that it has
abbrev pub settled : {K : Type 0} → Named K → K → Tree → Answer → Option (Evaluation K)
settled found row f (Ok s) = Some (Enclosed s)
settled found row f (Err (Arith fault)) = Some (Fault fault row)
settled found row f (Err (NoValue k)) = first_fault found (uses f)

-- what the formula of this row evaluates to
abbrev pub evaluation_of_formula : {K : Type 0} → Named K → K → Tree → Option (Evaluation K)
evaluation_of_formula found row f = settled found row f (span_of (λ n. span_in (found n)) f)

-- what a body evaluates to. The mean of a column has a span where the table is taken
abbrev pub evaluation_of_body : {K : Type 0} → Found K → K → Option (Body K) → Option (Evaluation K)
evaluation_of_body found row None = None
evaluation_of_body found row (Some (Input estimate)) = Some (Enclosed (point_span estimate))
evaluation_of_body found row (Some (Function f key)) = evaluation_of_formula (λ n. found (key n)) row f
evaluation_of_body found row (Some (Column t column)) = option_map Enclosed (mean_span t column)

-- the evaluation of a key through at most this many quantities, each of which uses the next
abbrev pub evaluation_through : {K : Type 0} → (K → K → Bool) → List (Quantity K) → ℕ → Found K
evaluation_through same qs zero n = None
evaluation_through same qs (suc k) n = evaluation_of_body (evaluation_through same qs k) n (body_of same qs n)

-- the evaluation of the quantity of this key
unfoldable pub evaluation_of : {K : Type 0} → (K → K → Bool) → List (Quantity K) → Found K
evaluation_of same qs n = evaluation_through same qs (length qs) n
