-- The tokens of a text. Blanks, which are spaces and tabs, may stand between them. A number is the
-- longest unsigned literal that stands there, a name the longest run of letters, digits, `_` and points.
use Rattle.std.specs.Prelude.{ℕ, zero, suc, ◌+◌, ◌-◌, ◌==◌, ◌&&◌, ◌||◌, Bool, false, cond, nat_le, nat_lt, min, List, [], ◌∷◌, take, drop, Option, None, Some, Result, Ok, Err}
use Rattle.std.specs.List.{prefix_len}
use Rattle.std.specs.Char.{is_ascii_digit}
use Rattle.line_text.specs.Characters.{opening_parenthesis, closing_parenthesis, asterisk, plus_sign, minus_sign, point, slash, digit_zero, caret}
use Rattle.line_text.specs.Pieces.{pieces}
use Rattle.decimal18.specs.Bound.{Bound}
use Rattle.decimal18.specs.Literal.{is_exponent_letter, parsed}
use Rattle.decimal18.specs.declared.literal.NumFault.{NumFault}
use Rattle.formula_ast.specs.Names.{begins_name, goes_on_name, is_name}
use Rattle.formula_ast.specs.declared.token.Sign.TheVariants.{Plus, Minus, Times, Over}
use Rattle.formula_ast.specs.declared.token.Kind.{Kind}
use Rattle.formula_ast.specs.declared.token.Kind.TheVariants.{Number, Name, Joins, Hat, Open, Close, Glued, Wrong}

-- a byte of a name's run
abbrev pub goes_on_run : ℕ → Bool
goes_on_run byte = goes_on_name byte || byte == point

-- ---- the length of the literal at the start
-- a point and the digits after it, and 0 where there is no point or no digit after it
abbrev pub with_point : ℕ → ℕ
with_point zero = 0
with_point (suc digits) = suc (suc digits)

abbrev pub point_len : List ℕ → ℕ
point_len [] = 0
point_len (byte ∷ bytes) = cond (byte == point) (with_point (prefix_len is_ascii_digit bytes)) 0

-- the sign of an exponent
abbrev pub sign_len : List ℕ → ℕ
sign_len [] = 0
sign_len (byte ∷ bytes) = cond (byte == plus_sign || byte == minus_sign) 1 0

-- the letter, the sign and one to three digits, and 0 where no digit is there
abbrev pub with_letter : ℕ → ℕ → ℕ
with_letter sign zero = 0
with_letter sign (suc digits) = suc (sign + suc digits)

abbrev pub exponent_len : List ℕ → ℕ
exponent_len [] = 0
exponent_len (byte ∷ bytes) =
    cond (is_exponent_letter byte)
    (with_letter (sign_len bytes) (min 3 (prefix_len is_ascii_digit (drop (sign_len bytes) bytes)))) 0

-- the longest unsigned literal at the start of a text that begins with a digit
abbrev pub literal_len : List ℕ → ℕ
literal_len text =
    let whole = prefix_len is_ascii_digit text in
    let after = point_len (drop whole text) in
    whole + after + exponent_len (drop after (drop whole text))

-- ---- the token at the start
abbrev pub bound_in : Result Bound NumFault → Option Bound
bound_in (Ok b) = Some b
bound_in (Err fault) = None

-- an exponent is a single digit from 1 to 9
abbrev pub power_of : List ℕ → Option ℕ
power_of [] = None
power_of (byte ∷ []) = cond (nat_lt digit_zero byte && nat_le byte (digit_zero + 9)) (Some (byte - digit_zero)) None
power_of (byte ∷ other ∷ others) = None

-- the text goes on with a letter, a digit, `_` or a point
abbrev pub is_glued : List ℕ → Bool
is_glued [] = false
is_glued (byte ∷ bytes) = goes_on_run byte

abbrev pub number_kind : List ℕ → List ℕ → Kind
number_kind literal after = cond (is_glued after) Glued (Number (bound_in (parsed literal)) (power_of literal))

abbrev pub name_kind : List ℕ → Kind
name_kind run = cond (is_name run) (Name run) Wrong

abbrev pub mark_kind : ℕ → Kind
mark_kind byte =
    cond (byte == plus_sign) (Joins Plus) (cond (byte == minus_sign) (Joins Minus) (cond (byte == asterisk) (Joins Times) (cond (byte == slash) (Joins Over)
    (cond (byte == caret) Hat (cond (byte == opening_parenthesis) Open (cond (byte == closing_parenthesis) Close Wrong))))))

-- the token's length, where the text begins with it
abbrev pub len_of : List ℕ → ℕ
len_of [] = 0
len_of (byte ∷ bytes) =
    cond (is_ascii_digit byte) (literal_len (byte ∷ bytes))
    (cond (begins_name byte) (prefix_len goes_on_run (byte ∷ bytes)) 1)

abbrev pub kind_of : List ℕ → Kind
kind_of [] = Wrong
kind_of (byte ∷ bytes) =
    let text = byte ∷ bytes in
    cond (is_ascii_digit byte) (number_kind (take (len_of text) text) (drop (len_of text) text))
    (cond (begins_name byte) (name_kind (take (len_of text) text)) (mark_kind byte))

-- a token: its place in the text, counted from 0, what it is, and its length
pub record Token : Type 0 where
  pub place : ℕ
  pub kind : Kind
  pub len : ℕ

-- the token at the start of the text, whose place is `at`
abbrev pub token_at : ℕ → List ℕ → Token
token_at at text = record { place = at; kind = kind_of text; len = len_of text }

-- the tokens of a text whose first byte has the place `at` and whose first `skip` bytes are passed
abbrev pub tokens : List ℕ → ℕ → ℕ → List Token
tokens text skip at = pieces len_of token_at text skip at

abbrev pub kinds : List Token → List Kind
kinds [] = []
kinds (t ∷ ts) = t.kind ∷ kinds ts

-- what the tokens of the text are
abbrev pub kinds_in : List ℕ → List Kind
kinds_in text = kinds (tokens text 0 0)
