-- The grammar of formulas:
--   expr = term, then any number of ("+" or "-") term
--   term = factor, then any number of ("*" or "/") factor
--   factor = "-" factor | power
--   power = atom | atom "^" exponent
--   exponent = number | "-" number
--   atom = number | name | "(" expr ")"
-- Sums and products group to the left. A formula as it is written keeps its parentheses and the
-- tokens of its numbers; its rank is the rule that it belongs to.
use Rattle.std.specs.Prelude.{◌≡◌, ℕ, ◌≤◌, ◌<◌, ℤ, pos, neg_ℤ, Bool, true, false, cond, List, [], ◌∷◌, ◌++◌, Option, None, Some}
use Rattle.decimal18.specs.Bound.{Bound}
use Rattle.formula_ast.specs.Trees.{Tree, Number as Literal, Variable, Opposite, Joined, Raised}
use Rattle.formula_ast.specs.Tokens.{kinds_in}
use Rattle.formula_ast.specs.declared.token.Sign.{Sign}
use Rattle.formula_ast.specs.declared.token.Sign.TheVariants.{Plus, Minus, Times, Over}
use Rattle.formula_ast.specs.declared.token.Kind.{Kind}
use Rattle.formula_ast.specs.declared.token.Kind.TheVariants.{Number, Name, Joins, Hat, Open, Close}

-- a formula as it is written. A number token has its bound, where it is one, and its value as an
-- exponent, where it is one
pub data Written : Type 0 where
  Digits : Option Bound → Option ℕ → Written
  Word : List ℕ → Written
  Minused : Written → Written
  Both : Sign → Written → Written → Written
  Powered : Written → Bool → Option Bound → Option ℕ → Written
  Group : Written → Written

-- how tightly an operator binds: 0 in an expr, 1 in a term
abbrev pub tight : Sign → ℕ
tight Plus = 0
tight Minus = 0
tight Times = 1
tight Over = 1

-- 0: expr, 1: term, 2: factor, 3: power, 4: atom
abbrev pub rank : Written → ℕ
rank (Digits value power) = 4
rank (Word name) = 4
rank (Minused a) = 2
rank (Both s a b) = tight s
rank (Powered a minus value power) = 3
rank (Group a) = 4

-- each part stands where the grammar has it
abbrev pub IsGrammatical : Written → Type 0
IsGrammatical (Digits value power) = Unit {0}
IsGrammatical (Word name) = Unit {0}
IsGrammatical (Minused a) = (2 ≤ rank a) × IsGrammatical a
IsGrammatical (Both s a b) = (tight s ≤ rank a) × ((tight s < rank b) × (IsGrammatical a × IsGrammatical b))
IsGrammatical (Powered a minus value power) = (4 ≤ rank a) × IsGrammatical a
IsGrammatical (Group a) = IsGrammatical a

-- the tokens that are written
abbrev pub exponent_spelling : Bool → Option Bound → Option ℕ → List Kind
exponent_spelling false value power = Number value power ∷ []
exponent_spelling true value power = Joins Minus ∷ Number value power ∷ []

abbrev pub spelling : Written → List Kind
spelling (Digits value power) = Number value power ∷ []
spelling (Word name) = Name name ∷ []
spelling (Minused a) = Joins Minus ∷ spelling a
spelling (Both s a b) = spelling a ++ Joins s ∷ spelling b
spelling (Powered a minus value power) = spelling a ++ Hat ∷ exponent_spelling minus value power
spelling (Group a) = Open ∷ (spelling a ++ Close ∷ [])

-- the number of a token: one that is no bound, which is refused, stands for 0
abbrev pub number_of : Option Bound → Bound
number_of None = record { coefficient = pos 0; places = 0 }
number_of (Some b) = b

-- the exponent of a token: one that is not from 1 to 9, which is refused, stands for 0
abbrev pub size_of : Option ℕ → ℕ
size_of None = 0
size_of (Some n) = n

abbrev pub exponent_of : Bool → Option ℕ → ℤ
exponent_of minus power = cond minus (neg_ℤ (pos (size_of power))) (pos (size_of power))

-- the formula that is meant
abbrev pub meant : Written → Tree
meant (Digits value power) = Literal (number_of value)
meant (Word name) = Variable name
meant (Minused a) = Opposite (meant a)
meant (Both s a b) = Joined s (meant a) (meant b)
meant (Powered a minus value power) = Raised (meant a) (exponent_of minus power)
meant (Group a) = meant a

-- these tokens spell the formula f
pub record Spells (ks : List Kind) (f : Tree) : Type 0 where
  pub written : Written
  pub grammatical : IsGrammatical written
  pub spelt : spelling written ≡ ks
  pub means : meant written ≡ f

-- the text spells the formula f
abbrev pub SpellsText : List ℕ → Tree → Type 0
SpellsText text f = Spells (kinds_in text) f

-- a text of the grammar goes on with more tokens after these
pub record GoesOn (ks : List Kind) : Type 0 where
  pub more : List Kind
  pub formula : Tree
  pub spelt : Spells (ks ++ more) formula
