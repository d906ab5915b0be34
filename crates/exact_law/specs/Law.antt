-- The law of propagation of uncertainty (JCGM 100:2008, 5.1.2, 5.2.2, H.2): a double sum over the
-- inputs, of two sensitivities and the covariance of the two inputs. Covariances come from groups of
-- inputs, and the law is the sum of the groups' parts.
use Rattle.std.specs.Prelude.{◌≡◌, ℕ, ◌-◌, Bool, true, cond, ◌&&◌, Option, Some, None, List, [], ◌∷◌, ◌++◌, map, pos}
use Rattle.exact_fraction.specs.Number.{ℚ, of_ℤ, ◌+ℚ◌, ◌*ℚ◌, ◌/ℚ◌, ◌≤ℚ◌, ◌-ℚ◌}
use Rattle.exact_fraction.specs.Sums.{total, below}
use Rattle.exact_law.specs.Model.{Row, Body, Input, Formula, absent, once, unit, exact_slope, has_value}

-- a column of a table of joint readings: its quantity, and what its record t reads
pub record Column (K : Type 0) : Type 0 where
  pub key : K
  pub reading : ℕ → ℚ

-- inputs that are not independent of one another, or one input alone
pub data Group (K : Type 0) : Type 0 where
  -- an input with its variance (JCGM 100:2008, 4.2.3, 4.3) and 1/ν, which is 0 for infinite degrees
  Own : K → ℚ → ℚ → Group K
  -- two inputs with their two variances, their covariance (5.2.2) and the 1/ν of these
  Pair : K → K → ℚ → ℚ → ℚ → ℚ → Group K
  -- the columns of a table of n records (H.2); readings of one quantity are a table of one column
  Joint : ℕ → List (Column K) → Group K

-- two inputs with a declared correlation coefficient r (5.2.2) and the standard uncertainties a and b,
-- whose degrees are infinite
abbrev pub declared_pair : {K : Type 0} → K → K → ℚ → ℚ → ℚ → Group K
declared_pair k m r a b = Pair k m (a *ℚ a) (b *ℚ b) (r *ℚ (a *ℚ b)) (of_ℤ (pos 0))

-- the mean of n readings (JCGM 100:2008, 4.2.1)
unfoldable pub mean : ℕ → (ℕ → ℚ) → ℚ
mean n q = total q (below n) /ℚ of_ℤ (pos n)

-- the covariance of the means of n joint readings (4.2.3, 5.2.3): (n Σqr - Σq Σr) / (n² (n-1))
unfoldable pub joint : ℕ → (ℕ → ℚ) → (ℕ → ℚ) → ℚ
joint n q r =
    ((of_ℤ (pos n) *ℚ total (λ t. q t *ℚ r t) (below n)) -ℚ (total q (below n) *ℚ total r (below n)))
    /ℚ (of_ℤ (pos n) *ℚ of_ℤ (pos n) *ℚ of_ℤ (pos (n - 1)))

-- c where i is a and j is b, and 0 elsewhere
unfoldable pub cell : {K : Type 0} → (K → K → Bool) → K → K → ℚ → K → K → ℚ
cell same a b c i j = unit same i a *ℚ unit same j b *ℚ c

-- the covariance of the inputs i and j within a group, and 0 where one of them is no member
unfoldable pub covariance_in : {K : Type 0} → (K → K → Bool) → Group K → K → K → ℚ
covariance_in same (Own k c d) i j = cell same k k c i j
covariance_in same (Pair k m v w c d) i j =
    (cell same k k v i j +ℚ cell same m m w i j) +ℚ (cell same k m c i j +ℚ cell same m k c i j)
covariance_in same (Joint n columns) i j =
    total (λ a. total (λ b. cell same a.key b.key (joint n a.reading b.reading) i j) columns) columns

-- the covariance of the inputs i and j
unfoldable pub covariance : {K : Type 0} → (K → K → Bool) → List (Group K) → K → K → ℚ
covariance same groups i j = total (λ g. covariance_in same g i j) groups

-- the law for covariances c and sensitivities u and w: the double sum over the inputs
unfoldable pub law_of : {K : Type 0} → (K → K → ℚ) → List K → (K → ℚ) → (K → ℚ) → ℚ
law_of c inputs u w = total (λ i. total (λ j. u i *ℚ w j *ℚ c i j) inputs) inputs

-- the part of a group: the same sum over its members
unfoldable pub part : {K : Type 0} → Group K → (K → ℚ) → (K → ℚ) → ℚ
part (Own k c d) u w = u k *ℚ w k *ℚ c
part (Pair k m v w' c d) u w =
    ((u k *ℚ w k *ℚ v) +ℚ (u m *ℚ w m *ℚ w')) +ℚ ((u k *ℚ w m *ℚ c) +ℚ (u m *ℚ w k *ℚ c))
part (Joint n columns) u w =
    total (λ a. total (λ b. u a.key *ℚ w b.key *ℚ joint n a.reading b.reading) columns) columns

-- ---- models with groups
unfoldable pub inputs_with : {K : Type 0} → Body K → K → List K → List K
inputs_with (Input q) n ns = n ∷ ns
inputs_with (Formula f) n ns = ns

unfoldable pub inputs_of : {K : Type 0} → List (Row K) → List K
inputs_of [] = []
inputs_of (r ∷ rs) = inputs_with r.body r.key (inputs_of rs)

-- the covariance of two quantities of the model, and the variance of one where they are the same
unfoldable pub law : {K : Type 0} → (K → K → Bool) → List (Row K) → List (Group K) → K → K → ℚ
law same model groups y z =
    law_of (covariance same groups) (inputs_of model) (exact_slope same model y) (exact_slope same model z)

-- the part of a group in the variance of y
unfoldable pub part_of : {K : Type 0} → (K → K → Bool) → List (Row K) → Group K → K → ℚ
part_of same model g y = part g (exact_slope same model y) (exact_slope same model y)

-- the covariance of y and z, and the part of a group in the variance of y, where they are defined
unfoldable pub law_where_defined : {K : Type 0} → (K → K → Bool) → List (Row K) → List (Group K) → K → K → Option ℚ
law_where_defined same model groups y z =
    cond (has_value same model y && has_value same model z) (Some (law same model groups y z)) None

unfoldable pub part_where_defined : {K : Type 0} → (K → K → Bool) → List (Row K) → Group K → K → Option ℚ
part_where_defined same model g y = cond (has_value same model y) (Some (part_of same model g y)) None

-- ---- what is asked of a group
-- no variance and no 1/ν is negative, and the square of a covariance is at most the product of the two
-- variances
unfoldable pub IsSound : {K : Type 0} → Group K → Type 0
IsSound (Own k c d) = (of_ℤ (pos 0) ≤ℚ c) × (of_ℤ (pos 0) ≤ℚ d)
IsSound (Pair k m v w c d) = (of_ℤ (pos 0) ≤ℚ v) × (of_ℤ (pos 0) ≤ℚ w) × (c *ℚ c ≤ℚ v *ℚ w) × (of_ℤ (pos 0) ≤ℚ d)
IsSound (Joint n columns) = Unit {0}

unfoldable pub members : {K : Type 0} → Group K → List K
members (Own k c d) = k ∷ []
members (Pair k m v w c d) = k ∷ m ∷ []
members (Joint n columns) = map (λ a. a.key) columns

-- whether each of the keys stands once among the inputs
unfoldable pub stand_in : {K : Type 0} → (K → K → Bool) → List K → List K → Bool
stand_in same inputs [] = true
stand_in same inputs (n ∷ ns) = once same n inputs && stand_in same inputs ns

-- each group has the property
unfoldable pub AllGroups : {K : Type 0} → (Group K → Type 0) → List (Group K) → Type 0
AllGroups P [] = Unit {0}
AllGroups P (g ∷ gs) = P g × AllGroups P gs

-- the groups are sound, and their members stand among the model's inputs
pub record IsSoundFor {K : Type 0} (same : K → K → Bool) (inputs : List K) (g : Group K) : Type 0 where
  pub sound : IsSound g
  pub in_inputs : stand_in same inputs (members g) ≡ true

-- the members of all groups
unfoldable pub all_members : {K : Type 0} → List (Group K) → List K
all_members [] = []
all_members (g ∷ gs) = members g ++ all_members gs

-- the groups part the inputs: each input is a member of one group and stands once there, and each member
-- is an input
pub record PartTheInputs {K : Type 0} (same : K → K → Bool) (inputs : List K) (groups : List (Group K)) : Type 0 where
  pub inputs_in_groups : stand_in same (all_members groups) inputs ≡ true
  pub members_in_inputs : stand_in same inputs (all_members groups) ≡ true

-- the column is one of a table, whose other columns have other keys
pub record OnceAmong {K : Type 0} (same : K → K → Bool) (a : Column K) (columns : List (Column K)) : Type 0 where
  pub before : List (Column K)
  pub after : List (Column K)
  pub is_one : columns ≡ before ++ a ∷ after
  pub absent_before : absent same a.key (map (λ b. b.key) before) ≡ true
  pub absent_after : absent same a.key (map (λ b. b.key) after) ≡ true
