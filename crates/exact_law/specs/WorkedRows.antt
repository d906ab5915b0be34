-- Small models, by which the definitions can be read: their values are computed by the definitions.
use Rattle.std.specs.Prelude.{ℕ, zero, suc, Bool, true, false, cond, Some, None, List, [], ◌∷◌, ℤ, pos, negsuc, nat_eq}
use Rattle.exact_fraction.specs.Number.{ℚ, of_ℤ, ◌/ℚ◌, inv_ℚ}
use Rattle.exact_law.specs.Model.{Num, Key, Neg, Add, Sub, Mul, Div, Pow, Body, Input, Formula, Row}
use Rattle.exact_law.specs.Law.{Group, Own, Pair, Joint, Column, declared_pair}
use Rattle.exact_law.specs.WrittenRule.{Rule, Binary, FourOutcomes, Ends, Span}

abbrev pub whole : ℕ → ℚ
whole n = of_ℤ (pos n)

abbrev pub ratio : ℤ → ℕ → ℚ
ratio a b = of_ℤ a /ℚ of_ℤ (pos b)

-- a row: its key and what it is
abbrev pub row : ℕ → Body ℕ → Row ℕ
row n b = record { key = n; body = b }

-- X = 5 ± 1, A = 2 X, B = 3 X, C = B - A - X: a use of X for each of them, and all cancel
abbrev pub cancel : List (Row ℕ)
cancel =
    row 0 (Input (whole 5))
    ∷ row 1 (Formula (Mul (Key 0) (Num (whole 2))))
    ∷ row 2 (Formula (Mul (Key 0) (Num (whole 3))))
    ∷ row 3 (Formula (Sub (Sub (Key 2) (Key 1)) (Key 0)))
    ∷ []

abbrev pub cancel_groups : List (Group ℕ)
cancel_groups = Own 0 (whole 1) (whole 0) ∷ []

-- A = 1 ± 1 and B = 1 ± 1, each with 5 degrees of freedom, S = A + B, T = 2 A + B, U = B
abbrev pub two_degrees : List (Row ℕ)
two_degrees =
    row 0 (Input (whole 1))
    ∷ row 1 (Input (whole 1))
    ∷ row 2 (Formula (Add (Key 0) (Key 1)))
    ∷ row 3 (Formula (Add (Mul (Num (whole 2)) (Key 0)) (Key 1)))
    ∷ row 4 (Formula (Key 1))
    ∷ []

abbrev pub two_degrees_groups : List (Group ℕ)
two_degrees_groups = Own 0 (whole 1) (inv_ℚ (whole 5)) ∷ Own 1 (whole 1) (inv_ℚ (whole 5)) ∷ []

-- the same where B has infinite degrees
abbrev pub one_degrees_groups : List (Group ℕ)
one_degrees_groups = Own 0 (whole 1) (inv_ℚ (whole 5)) ∷ Own 1 (whole 1) (whole 0) ∷ []

-- A = 1 ± 1 and B = 2 ± 1 with the correlation coefficient -1, S = A + B
abbrev pub fully_correlated : List (Row ℕ)
fully_correlated =
    row 0 (Input (whole 1))
    ∷ row 1 (Input (whole 2))
    ∷ row 2 (Formula (Add (Key 0) (Key 1)))
    ∷ []

abbrev pub fully_correlated_groups : List (Group ℕ)
fully_correlated_groups = declared_pair 0 1 (of_ℤ (negsuc 0)) (whole 1) (whole 1) ∷ []

-- A = 5 ± 2 and B = 7 ± 3 with the correlation coefficient 1/2 and 8 degrees of freedom, S = A + 2 B
abbrev pub unequal_pair : List (Row ℕ)
unequal_pair =
    row 0 (Input (whole 5))
    ∷ row 1 (Input (whole 7))
    ∷ row 2 (Formula (Add (Key 0) (Mul (Num (whole 2)) (Key 1))))
    ∷ []

abbrev pub unequal_pair_groups : List (Group ℕ)
unequal_pair_groups = Pair 0 1 (whole 4) (whole 9) (whole 3) (inv_ℚ (whole 8)) ∷ []

-- the same with each key one more
abbrev pub renamed_pair : List (Row ℕ)
renamed_pair =
    row 1 (Input (whole 5))
    ∷ row 2 (Input (whole 7))
    ∷ row 3 (Formula (Add (Key 1) (Mul (Num (whole 2)) (Key 2))))
    ∷ []

abbrev pub renamed_pair_groups : List (Group ℕ)
renamed_pair_groups = Pair 1 2 (whole 4) (whole 9) (whole 3) (inv_ℚ (whole 8)) ∷ []

-- two formulas that use one another
abbrev pub cycle : List (Row ℕ)
cycle = row 0 (Formula (Key 1)) ∷ row 1 (Formula (Key 0)) ∷ []

-- whether the key is one of the two
unfoldable pub in_cycle : ℕ → Bool
in_cycle zero = true
in_cycle (suc zero) = true
in_cycle (suc (suc n)) = false

-- 11 joint readings of A and B: 2 and 3, and ten times 1 and 1; S = A + B
abbrev pub readings_but : ℕ → ℕ → ℚ
readings_but first t = cond (nat_eq t 0) (whole first) (whole 1)

abbrev pub first_column : Column ℕ
first_column = record { key = 0; reading = readings_but 2 }

abbrev pub second_column : Column ℕ
second_column = record { key = 1; reading = readings_but 3 }

abbrev pub eleven_readings : List (Row ℕ)
eleven_readings =
    row 0 (Input (ratio (pos 12) 11))
    ∷ row 1 (Input (ratio (pos 13) 11))
    ∷ row 2 (Formula (Add (Key 0) (Key 1)))
    ∷ []

abbrev pub eleven_readings_groups : List (Group ℕ)
eleven_readings_groups =
    Joint 11 (first_column ∷ second_column ∷ []) ∷ []

-- X = 2, Y = 3, and a row for each operation
abbrev pub operations : List (Row ℕ)
operations =
    row 2 (Formula (Neg (Key 0)))
    ∷ row 3 (Formula (Add (Key 0) (Key 1)))
    ∷ row 4 (Formula (Sub (Key 0) (Key 1)))
    ∷ row 5 (Formula (Mul (Key 0) (Key 1)))
    ∷ row 6 (Formula (Div (Key 0) (Key 1)))
    ∷ row 7 (Formula (Pow (Key 0) (pos 3)))
    ∷ row 8 (Formula (Pow (Key 0) (negsuc 1)))
    ∷ row 9 (Formula (Pow (Key 0) (pos 0)))
    ∷ row 10 (Formula (Num (whole 7)))
    ∷ row 0 (Input (whole 2))
    ∷ row 1 (Input (whole 3))
    ∷ []

abbrev pub formula_rows : List ℕ
formula_rows = 2 ∷ 3 ∷ 4 ∷ 5 ∷ 6 ∷ 7 ∷ 8 ∷ 9 ∷ 10 ∷ []

-- Z = 0, P = 1 / Z, and uses of P or of Z in each operation, none of which has a value; Q = Z² has one
abbrev pub undefined_rows : List (Row ℕ)
undefined_rows =
    row 0 (Input (whole 0))
    ∷ row 1 (Formula (Div (Num (whole 1)) (Key 0)))
    ∷ row 2 (Formula (Pow (Key 0) (negsuc 0)))
    ∷ row 3 (Formula (Neg (Key 1)))
    ∷ row 4 (Formula (Add (Key 1) (Key 0)))
    ∷ row 5 (Formula (Add (Key 0) (Key 1)))
    ∷ row 6 (Formula (Sub (Key 1) (Key 0)))
    ∷ row 7 (Formula (Sub (Key 0) (Key 1)))
    ∷ row 8 (Formula (Mul (Key 1) (Key 0)))
    ∷ row 9 (Formula (Mul (Key 0) (Key 1)))
    ∷ row 10 (Formula (Div (Key 1) (Num (whole 1))))
    ∷ row 11 (Formula (Div (Num (whole 1)) (Add (Num (whole 1)) (Key 1))))
    ∷ row 12 (Formula (Pow (Key 1) (pos 2)))
    ∷ row 13 (Formula (Pow (Key 0) (pos 2)))
    ∷ []

-- the values of ν in Table G.2
abbrev pub tabulated : List ℕ
tabulated =
    1 ∷ 2 ∷ 3 ∷ 4 ∷ 5 ∷ 6 ∷ 7 ∷ 8 ∷ 9 ∷ 10 ∷ 11 ∷ 12 ∷ 13 ∷ 14 ∷ 15 ∷ 16 ∷ 17 ∷ 18 ∷ 19 ∷ 20 ∷ 25 ∷ 30 ∷ 35 ∷ 40 ∷ 45 ∷ 50 ∷ 100 ∷ []

-- from 0 to 20 with the guard factor 1/2
abbrev pub between_limits : Rule
between_limits = record { lower = Some (whole 0); upper = Some (whole 20); guard = ratio (pos 1) 2; form = FourOutcomes }

abbrev pub between_limits_binary : Rule
between_limits_binary = record { lower = Some (whole 0); upper = Some (whole 20); guard = ratio (pos 1) 2; form = Binary }

abbrev pub no_limits : Rule
no_limits = record { lower = None; upper = None; guard = ratio (pos 1) 2; form = Binary }

abbrev pub ends : ℚ → ℚ → Ends
ends a b = record { low = a; high = b }

-- a distance from a to b whose square is from c to d
abbrev pub span : ℤ → ℤ → ℕ → ℕ → Span
span a b c d = record { distance = ends (of_ℤ a) (of_ℤ b); square = ends (whole c) (whole d) }
