-- Small groups and gradients of the inputs 1 and 2, by which the definitions can be read.
use Rattle.std.specs.Prelude.{ℕ, List, [], ◌∷◌, ℤ, pos, negsuc}
use Rattle.exact_fraction.specs.Number.{of_ℤ}
use Rattle.exact_law.specs.Model.{Row, Input, Formula, Num, Key, Mul}
use Rattle.decimal18.specs.Bound.{Bound, scaled}
use Rattle.fixed_interval.specs.Interval.{point_span}
use Rattle.type_b.specs.declared.shape.Shape.TheVariants.{Std}
use Rattle.type_b.specs.declared.shape.Dof.TheVariants.{Inf}
use Rattle.type_a.specs.WorkedTables.{voltage_and_current}
use Rattle.covariance.specs.Gradients.{Gradient}
use Rattle.covariance.specs.Groups.{Group, Single, Pair, Columns}

abbrev pub whole : ℕ → Bound
whole n = scaled (pos n) 0

-- the input 1 alone
abbrev pub single : ℕ → Group ℕ
single u = Single 1 (Std (whole u)) Inf

-- the same by what states no uncertainty
abbrev pub below : Group ℕ
below = Single 1 (Std (scaled (negsuc 0) 0)) Inf

-- its variance is out of the range of bounds
abbrev pub great : Group ℕ
great = single 1000000000

-- the inputs 1 and 2, the first with the standard uncertainty 1, with the correlation coefficient -1
abbrev pub against : ℕ → Group ℕ
against u = Pair 1 (Std (whole 1)) 2 (Std (whole u)) (scaled (negsuc 0) 0)

-- the voltage and the current (JCGM 100:2008, Table H.2)
abbrev pub columns : Group ℕ
columns = Columns (1 ∷ 2 ∷ []) voltage_and_current

abbrev pub nothing : Gradient
nothing = []

abbrev pub first_of : ℕ → Gradient
first_of a = (1, point_span (whole a)) ∷ []

abbrev pub second_of : ℕ → Gradient
second_of a = (2, point_span (whole a)) ∷ []

abbrev pub first_against : Gradient
first_against = (1, point_span (scaled (negsuc 0) 0)) ∷ []

abbrev pub both_of : ℤ → ℤ → Gradient
both_of a b = (1, point_span (scaled a 0)) ∷ (2, point_span (scaled b 0)) ∷ []

-- ---- models
-- the input X of 5, which is 1, and the multiple of X under another number
abbrev pub given : Row ℕ
given = record { key = 1; body = Input (of_ℤ (pos 5)) }

abbrev pub multiple : ℕ → ℕ → Row ℕ
multiple n factor = record { key = n; body = Formula (Mul (Num (of_ℤ (pos factor))) (Key 1)) }

-- A = 2 X and B = 3 X, which are 2 and 3
abbrev pub standard : List (Row ℕ)
standard = given ∷ multiple 2 2 ∷ multiple 3 3 ∷ []

-- two quantities under one key
abbrev pub one_key : List (Row ℕ)
one_key = given ∷ multiple 1 2 ∷ []
