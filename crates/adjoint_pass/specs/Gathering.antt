-- The sensitivities of a quantity y as code finds them, by numbers: one after another, each from those of its users
-- that are found.
use Rattle.std.specs.Prelude.{ℕ, nat_eq, if◌then◌else◌, List, [], ◌∷◌, map, filter, reverse, Option, None, Some, is_some, sum_by}
use Rattle.fixed_interval.specs.Interval.{Interval, point_span}
use Rattle.fixed_interval.specs.Rules.{one_bound, product_span}
use Rattle.fixed_interval.specs.Sums.{zero_span, both, sum_of}
use Rattle.dep_graph.specs.Nodes.{Node, users_in}
use Rattle.covariance.specs.Gradients.{Spans, sensitivity}
use Rattle.value_cache.specs.Quantities.{Body}
use Rattle.value_cache.specs.Evaluations.{Found, span_in}
use Rattle.value_cache.specs.Rules.{Bodies}
use Rattle.adjoint_pass.specs.Sensitivities.{part_of}
use Rattle.adjoint_pass.specs.Costs.{term_cost}

-- the partial derivative of a row by n, where these are the spans of the quantities
abbrev pub part_in : (ℕ → Option Interval) → Option (Body ℕ) → ℕ → Option Interval
part_in given None n = Some zero_span
part_in given (Some body) n = part_of nat_eq given body n

-- that of the row of m, by the cells
abbrev pub part_at : Bodies → Found ℕ → ℕ → ℕ → Option Interval
part_at bodies cells m n = part_in (λ k. span_in (cells k)) (bodies m) n

-- what m brings to n
abbrev pub term_at : Bodies → Found ℕ → Spans ℕ → ℕ → ℕ → Option Interval
term_at bodies cells found n m = both (Some (sensitivity found m)) (part_at bodies cells m n) product_span

-- those whose sensitivities are found
abbrev pub found_among : Spans ℕ → List ℕ → List ℕ
found_among found ms = filter (λ m. is_some (found m)) ms

-- what these bring to n
abbrev pub gathered : Bodies → Found ℕ → Spans ℕ → ℕ → List ℕ → List (Option Interval)
gathered bodies cells found n ms = map (term_at bodies cells found n) (found_among found ms)

-- the sensitivity of y to n: from its users, the last first
abbrev pub next_sensitivity : List Node → Bodies → Found ℕ → ℕ → Spans ℕ → ℕ → Option Interval
next_sensitivity nodes bodies cells y found n =
    if nat_eq n y then Some (point_span one_bound) else sum_of (gathered bodies cells found n (reverse (users_in nodes n)))

-- what it costs to find it
abbrev pub next_cost : List Node → Bodies → ℕ → Spans ℕ → ℕ → ℕ
next_cost nodes bodies y found n =
    if nat_eq n y then 1 else sum_by (λ m. term_cost (bodies m)) (found_among found (reverse (users_in nodes n)))

-- the first of the names beside which n stands
abbrev pub name_beside : List (List ℕ) → List ℕ → ℕ → Option (List ℕ)
name_beside [] ids n = None
name_beside (m ∷ ms) [] n = None
name_beside (m ∷ ms) (id ∷ ids) n = if nat_eq id n then Some m else name_beside ms ids n
