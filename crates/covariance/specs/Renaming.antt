-- Groups of inputs under other keys, as numbers of quantities in the place of their names.
use Rattle.std.specs.Prelude.{map}
use Rattle.covariance.specs.Groups.{Group, Single, Pair, Columns}

-- the group with each member k as f k. What is stated of the members stays
abbrev pub renamed_group : {K L : Type 0} → (K → L) → Group K → Group L
renamed_group f (Single k shape dof) = Single (f k) shape dof
renamed_group f (Pair k s m t r) = Pair (f k) s (f m) t r
renamed_group f (Columns ks readings) = Columns (map f ks) readings
