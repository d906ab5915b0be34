-- A text whose tokens are read one by one, from the start.
use Rattle.std.specs.Prelude.{◌≡◌, ℕ, ◌+◌, ◌-◌, ◌<◌, ◌≤◌, List, length, drop, IfSome}
use Rattle.line_text.specs.Blanks.{IsTight}
use Rattle.formula_ast.specs.Tokens.{len_of, kind_of, tokens}
use Rattle.formula_ast.specs.declared.token.Kind.{Kind}
use Rattle.formula_ast.specs.declared.token.Kind.TheVariants.{Number, Name, Joins, Hat, Open, Close, Glued, Wrong}

-- an exponent has one digit
abbrev pub IsSmall : Kind → Type 0
IsSmall (Number value power) = IfSome power (λ n. n ≤ 9)
IsSmall (Name name) = Unit {0}
IsSmall (Joins s) = Unit {0}
IsSmall Hat = Unit {0}
IsSmall Open = Unit {0}
IsSmall Close = Unit {0}
IsSmall Glued = Unit {0}
IsSmall Wrong = Unit {0}

-- `after` is the text after the blanks at its start
pub record IsPassed (text after : List ℕ) : Type 0 where
  pub tight : IsTight after
  pub within : length after ≤ length text
  pub same : (at : ℕ) → tokens text 0 at ≡ tokens after 0 (at + (length text - length after))

-- a token of this length and kind is at the start of the text, and the tokens after it are those of `after`
pub record IsFirstToken (text : List ℕ) (len : ℕ) (kind : Kind) (after : List ℕ) : Type 0 where
  pub positive : 0 < len
  pub long : len ≡ len_of text
  pub is : kind ≡ kind_of text
  pub within : len + length after ≤ length text
  pub same : (at : ℕ) → tokens (drop len text) 0 at ≡ tokens after 0 (at + (length text - len - length after))
