-- Small quantities, by which the definitions can be read.
use Rattle.std.specs.Prelude.{ℕ, List, [], ◌∷◌, pos, codes, get_or}
use Rattle.decimal18.specs.Bound.{Bound, scaled}
use Rattle.formula_ast.specs.Trees.{Tree, Number, Variable, Joined}
use Rattle.formula_ast.specs.declared.token.Sign.TheVariants.{Times, Over}
use Rattle.value_cache.specs.Quantities.{Input, Function, Quantity, by_names}

abbrev pub input : List ℕ → Bound → Quantity (List ℕ)
input name estimate = record { key = name; body = Input estimate }

abbrev pub formula : List ℕ → Tree → Quantity (List ℕ)
formula name f = record { key = name; body = by_names f }

-- X = 3, A = X * X, B = A * X, T = X / 3
abbrev pub squared : Quantity (List ℕ)
squared = formula (codes "A") (Joined Times (Variable (codes "X")) (Variable (codes "X")))

abbrev pub cubed : List (Quantity (List ℕ))
cubed =
    input (codes "X") (scaled (pos 3) 0)
    ∷ squared
    ∷ formula (codes "B") (Joined Times (Variable (codes "A")) (Variable (codes "X")))
    ∷ formula (codes "T") (Joined Over (Variable (codes "X")) (Number (scaled (pos 3) 0)))
    ∷ []

-- V = 10^-10, R = 1 / V: the value of R is in the range of bounds, and its sensitivity to V is not
abbrev pub steep : List (Quantity (List ℕ))
steep = input (codes "V") (scaled (pos 1) 10) ∷ formula (codes "R") (Joined Over (Number (scaled (pos 1) 0)) (Variable (codes "V"))) ∷ []

-- X = 3 and A = X * X by names, and by their first bytes
abbrev pub first_byte : List ℕ → ℕ
first_byte name = get_or name 0 0

abbrev pub pair : List (Quantity (List ℕ))
pair = input (codes "X") (scaled (pos 3) 0) ∷ squared ∷ []

abbrev pub pair_by_bytes : List (Quantity ℕ)
pair_by_bytes =
    record { key = 88; body = Input (scaled (pos 3) 0) }
    ∷ record { key = 65; body = Function (Joined Times (Variable (codes "X")) (Variable (codes "X"))) first_byte }
    ∷ []
