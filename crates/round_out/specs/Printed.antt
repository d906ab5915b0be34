-- A whole number of units of a decimal place as it is printed; how is this project's own rule.
use Rattle.std.specs.Prelude.{ℕ, suc, ℤ, pos, negsuc, unsigned_abs, if◌then◌else◌, List, ◌++◌, codes, decimal, replicate}
use Rattle.std.specs.Ordering.{int_eq}
use Rattle.line_text.specs.Characters.{digit_zero}
use Rattle.decimal18.specs.Bound.{scaled}
use Rattle.decimal18.specs.Text.{sign_of, text_of}

-- c followed by so many zeros, and `0` where c is 0
abbrev pub with_zeros : ℤ → ℕ → List ℕ
with_zeros c zeros =
    if int_eq c (pos 0) then codes "0" else sign_of c ++ decimal (unsigned_abs c) ++ replicate zeros digit_zero

-- c units of 10^e: for e below 0 a decimal number with -e digits after the point
abbrev pub text_at : ℤ → ℤ → List ℕ
text_at c (negsuc p) = text_of (scaled c (suc p))
text_at c (pos zeros) = with_zeros c zeros
