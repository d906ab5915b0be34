-- Effective degrees of freedom from groups of inputs (JCGM 100:2008, G.4.1): each group that has a member in the cone of
-- a quantity brings a part to its variance.
use Rattle.std.specs.Prelude.{◌-◌, List, [], ◌∷◌, ◌++◌, map, filter, length, Option, None, Some, Result, Err}
use Rattle.std.specs.Option.{option_map}
use Rattle.exact_fraction.specs.Number.{ℚ}
use Rattle.exact_law.specs.Law as law
use Rattle.exact_law.specs.Degrees.{Share, inverse_degrees}
use Rattle.fixed_interval.specs.Interval.{Interval}
use Rattle.fixed_interval.specs.declared.faults.Overflow.{Overflow}
use Rattle.type_b.specs.declared.shape.Dof.{Dof}
use Rattle.type_b.specs.declared.shape.Dof.TheVariants.{Inf, Whole}
use Rattle.type_b.specs.Shapes.{IsDegrees}
use Rattle.table_g2.specs.declared.known.Nu.{Nu}
use Rattle.covariance.specs.Gradients.{Spans}
use Rattle.covariance.specs.Groups.{Group, Single, Pair, Columns}
use Rattle.covariance.specs.Variances.{group_variance_span, meets}
use Rattle.eff_dof.specs.declared.part.Part.{Part}
use Rattle.eff_dof.specs.Degrees.{known_degrees}

-- those that are stated of an input alone (G.4.2), infinitely many of a pair, and n - 1 for n readings (G.3.3). That a
-- table of n records has the same is our rule
abbrev pub degrees_of_group : {K : Type 0} → Group K → Dof
degrees_of_group (Single k shape dof) = dof
degrees_of_group (Pair k s m t r) = Inf
degrees_of_group (Columns ks readings) = Whole (length readings - 1)

-- they are in their range, so a table has at least two records
abbrev pub HasDegrees : {K : Type 0} → Group K → Type 0
HasDegrees g = IsDegrees (degrees_of_group g)

abbrev pub AllGroups : {K : Type 0} → (Group K → Type 0) → List (Group K) → Type 0
AllGroups P [] = Unit {0}
AllGroups P (g ∷ gs) = P g × AllGroups P gs

abbrev pub HaveDegrees : {K : Type 0} → List (Group K) → Type 0
HaveDegrees groups = AllGroups HasDegrees groups

-- ---- parts
-- the group's part in the variance of y; none where that leaves the range of bounds
abbrev pub part_by : Dof → Option Interval → Option Part
part_by dof o = option_map (λ v. record { variance = v; dof = dof }) o

abbrev pub part_of : {K : Type 0} → Spans K → Group K → Option Part
part_of y g = part_by (degrees_of_group g) (group_variance_span y g)

-- these parts, before others that may not be there
abbrev pub put_before : List Part → Option (List Part) → Option (List Part)
put_before ps o = option_map (λ qs. ps ++ qs) o

-- all, where each is there
abbrev pub all_there : List (Option Part) → Option (List Part)
all_there [] = Some []
all_there (None ∷ os) = None
all_there (Some p ∷ os) = put_before (p ∷ []) (all_there os)

-- the parts of the groups that meet the cone of y, in order
abbrev pub parts_of : {K : Type 0} → Spans K → List (Group K) → Option (List Part)
parts_of y groups = all_there (map (part_of y) (filter (meets y) groups))

-- ---- what is known of the degrees of y
abbrev pub known_by_parts : Option (List Part) → Result Nu Overflow
known_by_parts None = Err (record {})
known_by_parts (Some ps) = known_degrees ps

unfoldable pub known_degrees_of : {K : Type 0} → Spans K → List (Group K) → Result Nu Overflow
known_degrees_of y groups = known_by_parts (parts_of y groups)

-- ---- exact shares
-- what the groups of the exact law bring to a variance, for the sensitivities u
abbrev pub share_by : {K : Type 0} → (K → ℚ) → law.Group K → Share
share_by u g = record { part = law.part g u u; inverse_degrees = inverse_degrees g }
