-- The sensitivities of a quantity (JCGM 100:2008, 5.1.3) as spans, from the partial derivatives of the rows on which
-- it depends: what each row that uses a quantity brings to it is the row's own sensitivity times its partial
-- derivative by that quantity. `same` tests two keys for equality.
use Rattle.std.specs.Prelude.{ℕ, zero, suc, Bool, false, ◌||◌, if◌then◌else◌, List, map, filter, length, Option, None, Some}
use Rattle.std.specs.List.{list_any}
use Rattle.fixed_interval.specs.Interval.{Interval, point_span}
use Rattle.fixed_interval.specs.Rules.{one_bound, product_span}
use Rattle.fixed_interval.specs.Sums.{both, sum_of}

pub record Node (K : Type 0) : Type 0 where
  pub key : K
  -- the quantities that it uses
  pub uses : K → Bool
  -- the span of its partial derivative by each of these; None where that leaves the range of bounds
  pub part : K → Option Interval

-- those that use n, in their order
abbrev pub users : {K : Type 0} → K → List (Node K) → List (Node K)
users n nodes = filter (λ m. m.uses n) nodes

-- what they bring to n, where `a` has their sensitivities
abbrev pub terms : {K : Type 0} → (K → Option Interval) → K → List (Node K) → List (Option Interval)
terms a n nodes = map (λ m. both (a m.key) (m.part n) product_span) (users n nodes)

-- ---- the sensitivity of y to n, where these are the nodes on which y depends
-- through chains of fewer than k uses
abbrev pub sensitivity_through : {K : Type 0} → (K → K → Bool) → List (Node K) → K → ℕ → K → Option Interval
sensitivity_through same nodes y zero n = None
sensitivity_through same nodes y (suc k) n =
    if same n y then Some (point_span one_bound) else sum_of (terms (sensitivity_through same nodes y k) n nodes)

unfoldable pub sensitivity : {K : Type 0} → (K → K → Bool) → List (Node K) → K → K → Option Interval
sensitivity same nodes y n = sensitivity_through same nodes y (suc (length nodes)) n

-- ---- the nodes on which y depends
-- n is y, or y uses it through fewer than k others
abbrev pub is_in_cone_through : {K : Type 0} → (K → K → Bool) → List (Node K) → K → ℕ → K → Bool
is_in_cone_through same nodes y zero n = false
is_in_cone_through same nodes y (suc k) n = same n y || list_any (λ m. is_in_cone_through same nodes y k m.key) (users n nodes)

-- y depends on n, directly or through others, or is n
unfoldable pub is_in_cone : {K : Type 0} → (K → K → Bool) → List (Node K) → K → K → Bool
is_in_cone same nodes y n = is_in_cone_through same nodes y (suc (length nodes)) n

abbrev pub cone : {K : Type 0} → (K → K → Bool) → List (Node K) → K → List (Node K)
cone same nodes y = filter (λ m. is_in_cone same nodes y m.key) nodes
