-- Names of quantities: a plain one, or that of a table and that of its column, parted by a point.
use Rattle.std.specs.Prelude.{ℕ, ◌==◌, ◌&&◌, ◌||◌, Bool, false, nat_lt, List, [], ◌∷◌, length}
use Rattle.std.specs.List.{slice_split, list_all}
use Rattle.std.specs.Char.{is_ascii_alphabetic, is_ascii_alphanumeric}
use Rattle.line_text.specs.Characters.{point, underscore}

-- a byte with which a plain name may begin, and one with which it may go on
abbrev pub begins_name : ℕ → Bool
begins_name byte = is_ascii_alphabetic byte || byte == underscore

abbrev pub goes_on_name : ℕ → Bool
goes_on_name byte = is_ascii_alphanumeric byte || byte == underscore

-- the most bytes of a plain name, and of two with a point between them
abbrev pub plain_limit : ℕ
plain_limit = 24

abbrev pub name_limit : ℕ
name_limit = 49

-- a plain name: a letter or `_`, then letters, digits and `_`
abbrev pub is_plain_name : List ℕ → Bool
is_plain_name [] = false
is_plain_name (byte ∷ bytes) = begins_name byte && (list_all goes_on_name bytes && nat_lt (length bytes) plain_limit)

abbrev pub are_name_parts : List (List ℕ) → Bool
are_name_parts [] = false
are_name_parts (plain ∷ []) = is_plain_name plain
are_name_parts (table ∷ column ∷ []) = is_plain_name table && is_plain_name column
are_name_parts (table ∷ column ∷ other ∷ others) = false

-- a name: one or two plain names, parted by a point
abbrev pub is_name : List ℕ → Bool
is_name text = are_name_parts (slice_split (λ byte. byte == point) text)
