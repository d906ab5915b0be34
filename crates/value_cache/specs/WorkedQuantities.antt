-- Small quantities, by which the definitions can be read.
use Rattle.std.specs.Prelude.{ℕ, List, [], ◌∷◌, map, pos}
use Rattle.decimal18.specs.Bound.{scaled}
use Rattle.type_a.specs.Tables.{Table}
use Rattle.type_a.specs.Tables.{single}
use Rattle.value_cache.specs.Quantities.{Column, Quantity}

-- five readings in units of 10^-3, whose mean is 0.011
abbrev pub five : Table
five = single (map (λ n. scaled (pos n) 3) (12 ∷ 10 ∷ 11 ∷ 13 ∷ 9 ∷ []))

-- the name X
abbrev pub x_name : List ℕ
x_name = 88 ∷ []

-- X, the mean of the first column of readings
abbrev pub mean_of : Table → List (Quantity (List ℕ))
mean_of t = record { key = x_name; body = Column t 0 } ∷ []
