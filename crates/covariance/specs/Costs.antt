-- How much work variances and covariances take: each operation on spans is one step. This is a rule of this project's own.
use Rattle.std.specs.Prelude.{ℕ, ◌*◌, Bool, List, filter, length, sum_by}
use Rattle.covariance.specs.Groups.{Group, members}

-- the pairs of a group's members, in both orders, and each member with itself
abbrev pub pairs : {K : Type 0} → Group K → ℕ
pairs g = length (members g) * length (members g)

-- those of the groups that count
abbrev pub pairs_of : {K : Type 0} → (Group K → Bool) → List (Group K) → ℕ
pairs_of counts groups = sum_by pairs (filter counts groups)
