-- The header of a table, the record of the names of its columns.
use Rattle.std.specs.Prelude.{ℕ, Bool, true, not, ◌&&◌, nat_lt, nat_le, List, [], ◌∷◌, length, bytes_eq, codes}
use Rattle.std.specs.List.{list_all}
use Rattle.formula_ast.specs.Names.{is_plain_name}
use Rattle.formula_ast.specs.NewNames.{has}

-- the most columns of a table
abbrev pub most_columns : ℕ
most_columns = 8

-- the name of a column: any plain one but that of the line which ends the table
abbrev pub is_column : List ℕ → Bool
is_column name = is_plain_name name && not (bytes_eq name (codes "end"))

-- no name stands twice
abbrev pub are_distinct : List (List ℕ) → Bool
are_distinct [] = true
are_distinct (name ∷ names) = not (has names name) && are_distinct names

-- the names of the columns of a table: one to eight, no two of which are the same
abbrev pub is_header : List (List ℕ) → Bool
is_header names = nat_lt 0 (length names) && nat_le (length names) most_columns && list_all is_column names && are_distinct names
