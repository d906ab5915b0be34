-- The law of propagation of uncertainty over spans (JCGM 100:2008, 5.1.2, 5.2.2): the variance of a quantity and
-- the covariance of two, from the spans of sensitivities and from groups of inputs. Which operations are done,
-- and in which order, is our rule; the first that leaves the range of bounds leaves no span.
use Rattle.std.specs.Prelude.{ℕ, Bool, ◌||◌, List, [], ◌∷◌, ◌++◌, map, filter, is_some, Option, Some, pos}
use Rattle.std.specs.List.{list_any}
use Rattle.std.specs.Option.{option_map}
use Rattle.decimal18.specs.Bound.{scaled}
use Rattle.fixed_interval.specs.Interval.{Interval, point_span}
use Rattle.fixed_interval.specs.Rules.{zero_bound, product_span, square_span, floored_span}
use Rattle.fixed_interval.specs.Sums.{both, sum_of}
use Rattle.covariance.specs.Gradients.{Spans, sensitivity}
use Rattle.covariance.specs.Groups.{Group, members, placed, covariance_within}

-- ---- terms, for members x with sensitivities a x, b x and covariances c x y
-- the square of the sensitivity times the variance
abbrev pub own_term : Interval → Option Interval → Option Interval
own_term a v = both (square_span a) v product_span

-- the product of two sensitivities times the covariance
abbrev pub joint_term : Interval → Interval → Option Interval → Option Interval
joint_term a b c = both (product_span a b) c product_span

abbrev pub two_span : Interval
two_span = point_span (scaled (pos 2) 0)

-- twice that, as it stands twice in the double sum (5.2.2, formula 13)
abbrev pub twice_term : Interval → Interval → Option Interval → Option Interval
twice_term a b c = both (Some two_span) (joint_term a b c) product_span

-- a member's own term, and those with later members
abbrev pub row_terms : {X : Type 0} → (X → Interval) → (X → X → Option Interval) → X → List X → List (Option Interval)
row_terms a c x xs = own_term (a x) (c x x) ∷ map (λ y. twice_term (a x) (a y) (c x y)) xs

abbrev pub terms : {X : Type 0} → (X → Interval) → (X → X → Option Interval) → List X → List (Option Interval)
terms a c [] = []
terms a c (x ∷ xs) = row_terms a c x xs ++ terms a c xs

-- the terms of a covariance: one for each pair of members, in either order
abbrev pub cross_terms : {X : Type 0} → (X → Interval) → (X → Interval) → (X → X → Option Interval) → List X → List X → List (Option Interval)
cross_terms a b c ys [] = []
cross_terms a b c ys (x ∷ xs) = map (λ y. joint_term (a x) (b y) (c x y)) ys ++ cross_terms a b c ys xs

-- ---- one group: its members are placed
abbrev pub at_key : {K : Type 0} → Spans K → ℕ × K → Interval
at_key y p = sensitivity y p.1

abbrev pub at_places : {K : Type 0} → Group K → ℕ × K → ℕ × K → Option Interval
at_places g p q = covariance_within g p.0 q.0

-- its part in the variance of y, which is raised to 0, as no variance is below 0
unfoldable pub group_variance_span : {K : Type 0} → Spans K → Group K → Option Interval
group_variance_span y g =
    option_map (λ s. floored_span s zero_bound) (sum_of (terms (at_key y) (at_places g) (placed 0 (members g))))

-- its part in the covariance of y and z
unfoldable pub group_covariance_span : {K : Type 0} → Spans K → Spans K → Group K → Option Interval
group_covariance_span y z g =
    sum_of (cross_terms (at_key y) (at_key z) (at_places g) (placed 0 (members g)) (placed 0 (members g)))

-- ---- all groups that meet the cone of a quantity, which have a member there
abbrev pub meets : {K : Type 0} → Spans K → Group K → Bool
meets y g = list_any (λ k. is_some (y k)) (members g)

-- the combined variance of y (5.1.2)
abbrev pub combined_variance_span : {K : Type 0} → Spans K → List (Group K) → Option Interval
combined_variance_span y groups = sum_of (map (group_variance_span y) (filter (meets y) groups))

-- the covariance of y and z (H.2.3)
abbrev pub combined_covariance_span : {K : Type 0} → Spans K → Spans K → List (Group K) → Option Interval
combined_covariance_span y z groups =
    sum_of (map (group_covariance_span y z) (filter (λ g. meets y g || meets z g) groups))
