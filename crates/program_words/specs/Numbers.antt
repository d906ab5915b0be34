-- Numbers as they stand in the words: digits alone, of which leading zeros count too.
use Rattle.std.specs.Prelude.{ℕ, ◌&&◌, Bool, nat_lt, nat_le, if◌then◌else◌, List, length, Option, Some, None}
use Rattle.std.specs.List.{list_all}
use Rattle.std.specs.Char.{is_ascii_digit}
use Rattle.std.specs.Str.Parse.{digits_value}

-- each byte is a digit
abbrev pub are_digits : List ℕ → Bool
are_digits text = list_all is_ascii_digit text

-- the number, where it is from the least to the most
abbrev pub within : ℕ → ℕ → ℕ → Option ℕ
within least most number = if nat_le least number && nat_le number most then Some number else None

-- the number that a text writes with at least one digit and at most so many, from the least to the most
abbrev pub number_of : ℕ → ℕ → ℕ → List ℕ → Option ℕ
number_of digits least most text =
    if are_digits text && (nat_lt 0 (length text) && nat_le (length text) digits) then within least most (digits_value 10 text) else None
