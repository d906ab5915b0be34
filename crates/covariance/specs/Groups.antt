-- Groups of inputs that are not independent of one another, as their uncertainties are stated, and the
-- covariances of their members, exactly and as spans (JCGM 100:2008, 4.2.3, 4.3, 5.2.2, 5.2.3).
use Rattle.std.specs.Prelude.{◌≡◌, ℕ, zero, suc, true, List, [], ◌∷◌, map, length, Option, Some, Ok, pos}
use Rattle.exact_fraction.specs.Number.{ℚ, of_ℤ, ◌*ℚ◌, ◌≤ℚ◌, neg_ℚ}
use Rattle.decimal18.specs.Bound.{Bound, value_of}
use Rattle.fixed_interval.specs.Interval.{Interval, point_span}
use Rattle.fixed_interval.specs.Rules.{product_span}
use Rattle.fixed_interval.specs.Sums.{both}
use Rattle.exact_law.specs.Law.{Own, Joint, Column, declared_pair}
use Rattle.exact_law.specs.Law as law
use Rattle.type_b.specs.declared.shape.Shape.{Shape}
use Rattle.type_b.specs.declared.shape.Dof.{Dof}
use Rattle.type_b.specs.Shapes.{checked, inverse_degrees}
use Rattle.type_b.specs.Variances.{variance_of, variance_span, deviation_of, deviation_span, states_deviation}
use Rattle.type_a.specs.Tables.{Table, width_of}
use Rattle.type_a.specs.Statistics.{exact_reading, exact_joint, joint_span}
use Rattle.covariance.specs.declared.group.Group.{Group as CodeGroup}
use Rattle.covariance.specs.declared.group.Group.TheVariants.{Single as CodeSingle, Pair as CodePair, Columns as CodeColumns}

-- the keys K tell inputs apart, as their names or their numbers
pub data Group (K : Type 0) : Type 0 where
  -- an input that is independent of all others, by how its uncertainty is stated (4.3) and its degrees of freedom
  Single : K → Shape → Dof → Group K
  -- two inputs, each by how its uncertainty is stated, and their correlation coefficient (5.2.2). The degrees of
  -- freedom of both are infinite
  Pair : K → Shape → K → Shape → Bound → Group K
  -- inputs by their joint readings (5.2.3, H.2), one for each column. Readings of one input have one column
  Columns : List K → Table → Group K

abbrev pub members : {K : Type 0} → Group K → List K
members (Single k shape dof) = k ∷ []
members (Pair k s m t r) = k ∷ m ∷ []
members (Columns ks readings) = ks

-- what a group must be: its shapes state uncertainties, those of a pair by standard deviations, the correlation
-- coefficient is from -1 to 1, and each column of readings is a member
abbrev pub IsRegular : {K : Type 0} → Group K → Type 0
IsRegular (Single k shape dof) = checked shape ≡ Ok (record {})
IsRegular (Pair k s m t r) =
    (checked s ≡ Ok (record {})) × (states_deviation s ≡ true) × (checked t ≡ Ok (record {})) × (states_deviation t ≡ true)
    × (neg_ℚ (of_ℤ (pos 1)) ≤ℚ value_of r) × (value_of r ≤ℚ of_ℤ (pos 1))
IsRegular (Columns ks readings) = length ks ≡ width_of readings

abbrev pub AreRegular : {K : Type 0} → List (Group K) → Type 0
AreRegular [] = Unit {0}
AreRegular (g ∷ gs) = IsRegular g × AreRegular gs

-- ---- exact
-- members with their places, counted from i
abbrev pub placed : {K : Type 0} → ℕ → List K → List (ℕ × K)
placed i [] = []
placed i (k ∷ ks) = (i, k) ∷ placed (suc i) ks

abbrev pub column : {K : Type 0} → Table → ℕ × K → Column K
column readings p = record { key = p.1; reading = exact_reading readings p.0 }

-- the group of the exact law
abbrev pub exact_group : {K : Type 0} → Group K → law.Group K
exact_group (Single k shape dof) = Own k (variance_of shape) (inverse_degrees dof)
exact_group (Pair k s m t r) = declared_pair k m (value_of r) (deviation_of s) (deviation_of t)
exact_group (Columns ks readings) = Joint (length readings) (map (column readings) (placed 0 ks))

-- the covariance of the members at two places, counted from 0, and the variance of one where they are the same
abbrev pub exact_pair : Shape → Shape → Bound → ℕ → ℕ → ℚ
exact_pair s t r zero zero = variance_of s
exact_pair s t r zero (suc j) = value_of r *ℚ (deviation_of s *ℚ deviation_of t)
exact_pair s t r (suc i) zero = value_of r *ℚ (deviation_of s *ℚ deviation_of t)
exact_pair s t r (suc i) (suc j) = variance_of t

abbrev pub exact_within : {K : Type 0} → Group K → ℕ → ℕ → ℚ
exact_within (Single k shape dof) i j = variance_of shape
exact_within (Pair k s m t r) i j = exact_pair s t r i j
exact_within (Columns ks readings) i j = exact_joint readings i j

-- ---- spans of these
-- the covariance of a pair: the coefficient times the standard deviation of the first, times that of the second
abbrev pub pair_covariance_span : Shape → Shape → Bound → Option Interval
pair_covariance_span s t r =
    both (both (Some (point_span r)) (deviation_span s) product_span) (deviation_span t) product_span

abbrev pub pair_span : Shape → Shape → Bound → ℕ → ℕ → Option Interval
pair_span s t r zero zero = variance_span s
pair_span s t r zero (suc j) = pair_covariance_span s t r
pair_span s t r (suc i) zero = pair_covariance_span s t r
pair_span s t r (suc i) (suc j) = variance_span t

abbrev pub covariance_within : {K : Type 0} → Group K → ℕ → ℕ → Option Interval
covariance_within (Single k shape dof) i j = variance_span shape
covariance_within (Pair k s m t r) i j = pair_span s t r i j
covariance_within (Columns ks readings) i j = joint_span readings i j

-- ---- what the code's groups are
abbrev pub group_of : CodeGroup → Group ℕ
group_of (CodeSingle n shape dof) = Single n shape dof
group_of (CodePair n s m t r) = Pair n s m t r
group_of (CodeColumns ns readings) = Columns ns readings.value
