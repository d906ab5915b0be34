-- The text of a decimal number.
use Rattle.std.specs.Prelude.{ℕ, zero, suc, ◌+◌, ◌/◌, ◌%◌, ◌^◌, ℤ, pos, negsuc, unsigned_abs, List, [], ◌∷◌, ◌++◌, codes, decimal}
use Rattle.line_text.specs.Characters.{digit_zero}
use Rattle.decimal18.specs.Bound.{Bound}

-- the last p digits of n, with leading zeros where n has fewer
abbrev pub last_digits : ℕ → ℕ → List ℕ
last_digits zero n = []
last_digits (suc p) n = last_digits p (n / 10) ++ (digit_zero + n % 10) ∷ []

-- `-` where the number is negative
abbrev pub sign_of : ℤ → List ℕ
sign_of (pos _) = []
sign_of (negsuc _) = codes "-"

-- a point and p digits, and nothing for p = 0
abbrev pub after_point : ℕ → ℕ → List ℕ
after_point zero n = []
after_point (suc p) n = codes "." ++ last_digits (suc p) n

-- the sign, the whole part without leading zeros, and what stands after the point
abbrev pub text_of : Bound → List ℕ
text_of b =
    let size = unsigned_abs b.coefficient in
    sign_of b.coefficient ++ decimal (size / 10 ^ b.places) ++ after_point b.places size
