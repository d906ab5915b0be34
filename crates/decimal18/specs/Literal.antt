-- Literals: the texts that are numbers, and the bound that such a text is.
use Rattle.std.specs.Prelude.{◌≡◌, ◌≢◌, ℕ, ◌+◌, ◌*◌, ◌^◌, ◌<◌, ◌==◌, ◌&&◌, ◌||◌, Bool, true, false, nat_lt, nat_le, if◌then◌else◌, unsigned_abs, List, [], ◌∷◌, ◌++◌, length, take, drop, codes, Option, None, Some, option_map, Result, Ok, Err}
use Rattle.std.specs.List.{list_all, prefix_len}
use Rattle.std.specs.Char.{is_ascii_digit}
use Rattle.std.specs.Str.Parse.{digits_value}
use Rattle.line_text.specs.Characters.{plus_sign, minus_sign, point, small_e, capital_e}
use Rattle.exact_fraction.specs.Number.{ℚ}
use Rattle.decimal18.specs.Digits.{signed}
use Rattle.decimal18.specs.Bound.{Bound, scaled, value_of, canonical, IsBound}
use Rattle.decimal18.specs.declared.literal.NumFault.{NumFault}
use Rattle.decimal18.specs.declared.literal.NumFault.TheVariants.{NotNumber, NumberRange}

-- ---- a literal, its text and its value
-- the leading sign, if any
pub data Sign : Type 0 where
  Unsigned : Sign
  Plus : Sign
  Minus : Sign

-- `e` or `E`, a sign, and digits
pub record Exponent : Type 0 where
  pub letter : ℕ
  pub sign : Sign
  pub digits : List ℕ

-- a sign, the digits before the point, those after it (with none there is no point), and an exponent
pub record Literal : Type 0 where
  pub sign : Sign
  pub whole : List ℕ
  pub after_point : List ℕ
  pub exponent : Option Exponent

-- the sign as it is written
abbrev pub sign_text : Sign → List ℕ
sign_text Unsigned = []
sign_text Plus = codes "+"
sign_text Minus = codes "-"

-- the point and the digits after it, and nothing where there are none
abbrev pub point_text : List ℕ → List ℕ
point_text [] = []
point_text (digit ∷ digits) = codes "." ++ digit ∷ digits

-- the exponent as it is written
abbrev pub exponent_text : Option Exponent → List ℕ
exponent_text None = []
exponent_text (Some e) = e.letter ∷ sign_text e.sign ++ e.digits

-- how the literal is written
abbrev pub text_of_literal : Literal → List ℕ
text_of_literal l = sign_text l.sign ++ l.whole ++ point_text l.after_point ++ exponent_text l.exponent

-- each byte is a digit
abbrev pub are_digits : List ℕ → Bool
are_digits text = list_all is_ascii_digit text

-- `e` or `E`
abbrev pub is_exponent_letter : ℕ → Bool
is_exponent_letter byte = byte == small_e || byte == capital_e

-- one to three digits
abbrev pub are_exponent_digits : List ℕ → Bool
are_exponent_digits text = are_digits text && (nat_lt 0 (length text) && nat_le (length text) 3)

-- an exponent has its letter and its digits; a literal needs none
abbrev pub is_exponent : Option Exponent → Bool
is_exponent None = true
is_exponent (Some e) = is_exponent_letter e.letter && are_exponent_digits e.digits

-- the text is the literal l
pub record Spells (text : List ℕ) (l : Literal) : Type 0 where
  pub written : text_of_literal l ≡ text
  pub whole : are_digits l.whole ≡ true
  pub some : 0 < length l.whole
  pub after_point : are_digits l.after_point ≡ true
  pub exponent : is_exponent l.exponent ≡ true

-- the sign is a `-`
abbrev pub is_minus : Sign → Bool
is_minus Unsigned = false
is_minus Plus = false
is_minus Minus = true

-- the exponent where it is positive, and 0 elsewhere
abbrev pub raised : Option Exponent → ℕ
raised None = 0
raised (Some e) = if is_minus e.sign then 0 else digits_value 10 e.digits

-- the size of the exponent where it is negative, and 0 elsewhere
abbrev pub lowered : Option Exponent → ℕ
lowered None = 0
lowered (Some e) = if is_minus e.sign then digits_value 10 e.digits else 0

-- all digits as one whole number, times 10 ^ (exponent - number of digits after the point)
abbrev pub exact_of : Literal → Bound
exact_of l = scaled
    (signed (is_minus l.sign) (digits_value 10 (l.whole ++ l.after_point) * 10 ^ raised l.exponent))
    (length l.after_point + lowered l.exponent)

-- the text is a literal, and its exact value is x
pub record IsLiteral (text : List ℕ) (x : ℚ) : Type 0 where
  pub literal : Literal
  pub spelt : Spells text literal
  pub exact : value_of (exact_of literal) ≡ x

-- the text is a literal whose value no bound has
pub record IsOutOfRange (text : List ℕ) : Type 0 where
  pub value : ℚ
  pub literal : IsLiteral text value
  pub no_bound : (b : Bound) → IsBound b → value_of b ≢ value

-- ---- the literal that a text is, if any
-- the digits at the start, as many as there are
abbrev pub leading_digits : List ℕ → List ℕ
leading_digits text = take (prefix_len is_ascii_digit text) text

-- what follows the digits at the start
abbrev pub after_digits : List ℕ → List ℕ
after_digits text = drop (prefix_len is_ascii_digit text) text

-- the sign at the start
abbrev pub leading_sign : List ℕ → Sign
leading_sign [] = Unsigned
leading_sign (byte ∷ bytes) = if byte == plus_sign then Plus else if byte == minus_sign then Minus else Unsigned

-- what follows the sign at the start
abbrev pub after_sign : List ℕ → List ℕ
after_sign [] = []
after_sign (byte ∷ bytes) = if byte == plus_sign then bytes else if byte == minus_sign then bytes else byte ∷ bytes

-- the digits after a point at the start
abbrev pub leading_point : List ℕ → List ℕ
leading_point [] = []
leading_point (byte ∷ bytes) = if byte == point then leading_digits bytes else []

-- what follows the digits after a point; a point without a digit is not passed
abbrev pub after_leading_point : List ℕ → List ℕ
after_leading_point [] = []
after_leading_point (byte ∷ bytes) =
    if byte == point && nat_lt 0 (prefix_len is_ascii_digit bytes) then after_digits bytes else byte ∷ bytes

-- the exponent that the whole text is, where it is empty or one
abbrev pub exponent_of : List ℕ → Option (Option Exponent)
exponent_of [] = Some None
exponent_of (byte ∷ bytes) =
    if is_exponent_letter byte && are_exponent_digits (after_sign bytes)
    then Some (Some (record { letter = byte; sign = leading_sign bytes; digits = after_sign bytes })) else None

-- the literal that the text without its sign is
abbrev pub unsigned_literal : Sign → List ℕ → Option Literal
unsigned_literal sign text =
    if nat_lt 0 (prefix_len is_ascii_digit text)
    then option_map
    (λ e. record { sign = sign; whole = leading_digits text; after_point = leading_point (after_digits text); exponent = e })
    (exponent_of (after_leading_point (after_digits text)))
    else None

-- the literal that the text is
abbrev pub literal_of : List ℕ → Option Literal
literal_of text = unsigned_literal (leading_sign text) (after_sign text)

-- ---- the bound that a text is
-- at most 18 digits, and at most 36 of them after the point
abbrev pub is_bound : Bound → Bool
is_bound b = nat_lt (unsigned_abs b.coefficient) (10 ^ 18) && nat_le b.places 36

-- the number as a bound, which it is in its canonical form or in none
abbrev pub as_bound : Bound → Option Bound
as_bound b = let c = canonical b.coefficient b.places in if is_bound c then Some c else None

-- NumberRange where the literal's number is no bound
abbrev pub in_range : Option Bound → Result Bound NumFault
in_range None = Err NumberRange
in_range (Some b) = Ok b

-- NotNumber where there is no literal
abbrev pub read : Option Literal → Result Bound NumFault
read None = Err NotNumber
read (Some l) = in_range (as_bound (exact_of l))

-- the bound that the text is; NotNumber where it is no literal, NumberRange where its value is no bound
unfoldable pub parsed : List ℕ → Result Bound NumFault
parsed text = read (literal_of text)
