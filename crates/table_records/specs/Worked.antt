-- Small tables, by which the definitions can be read.
use Rattle.std.specs.Prelude.{ℕ, List, [], ◌∷◌, map, pos}
use Rattle.decimal18.specs.Bound.{Bound, scaled}
use Rattle.table_records.specs.Tables.{Table}

abbrev pub whole : ℕ → Bound
whole n = scaled (pos n) 0

abbrev pub table : List (List ℕ) → List (List Bound) → Table
table columns rows = record { columns = columns; rows = rows }

-- a column of these whole numbers
abbrev pub column : List ℕ → List ℕ → Table
column name numbers = table (name ∷ []) (map (λ n. whole n ∷ []) numbers)

-- the byte order mark before a text
abbrev pub marked : List ℕ → List ℕ
marked text = 0xEF ∷ 0xBB ∷ 0xBF ∷ text

-- names of one letter, A, B and so on
abbrev pub eight_letters : List (List ℕ)
eight_letters = map (λ letter. letter ∷ []) (65 ∷ 66 ∷ 67 ∷ 68 ∷ 69 ∷ 70 ∷ 71 ∷ 72 ∷ [])
