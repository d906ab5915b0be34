-- The rules for tokens, the grammar's and those beyond it, each in the grammar's own words, and the first
-- token of a text that breaks one.
use Rattle.std.specs.Prelude.{◌≡◌, ℕ, suc, ◌≤◌, ◌<◌, Bool, true, false, List, [], ◌∷◌, ◌++◌, ◌⊎◌, Option, None, Some}
use Rattle.decimal18.specs.Bound.{Bound}
use Rattle.decimal18.specs.declared.literal.NumFault.TheVariants.{NumberRange}
use Rattle.formula_ast.specs.Tokens.{Token, tokens, kinds}
use Rattle.formula_ast.specs.Grammar.{Written, IsGrammatical, spelling, GoesOn}
use Rattle.formula_ast.specs.Reading.{deepest, most_nodes, nests}
use Rattle.formula_ast.specs.Rules.{nesting}
use Rattle.formula_ast.specs.declared.token.Sign.TheVariants.{Minus}
use Rattle.formula_ast.specs.declared.token.Kind.{Kind}
use Rattle.formula_ast.specs.declared.token.Kind.TheVariants.{Number as NumberToken, Name, Joins, Hat, Open, Close, Glued, Wrong}
use Rattle.formula_ast.specs.declared.fault.FormulaFault.{FormulaFault}
use Rattle.formula_ast.specs.declared.fault.FormulaFault.TheVariants.{Syntax, UnknownFunction, Number, BadPower, TooDeep, TooMany, OutOfMemory}

-- ---- exponents
pub record EndsWith (last ks : List Kind) : Type 0 where
  pub start : List Kind
  pub parts : start ++ last ≡ ks

-- what comes after these tokens stands in an exponent
abbrev pub IsBeforeExponent : List Kind → Type 0
IsBeforeExponent ks = EndsWith (Hat ∷ []) ks ⊎ EndsWith (Hat ∷ Joins Minus ∷ []) ks

-- ---- nodes
-- the nodes that tokens write, where the first of them stands in an exponent or not. Each number, each
-- name, each sign and each `^` is one; what stands in an exponent is none
abbrev pub nodes_from : List Kind → Bool → ℕ
nodes_from [] exponent = 0
nodes_from (NumberToken value power ∷ ks) false = suc (nodes_from ks false)
nodes_from (NumberToken value power ∷ ks) true = nodes_from ks false
nodes_from (Joins s ∷ ks) false = suc (nodes_from ks false)
nodes_from (Joins s ∷ ks) true = nodes_from ks true
nodes_from (Name name ∷ ks) exponent = suc (nodes_from ks false)
nodes_from (Hat ∷ ks) exponent = suc (nodes_from ks true)
nodes_from (Open ∷ ks) exponent = nodes_from ks false
nodes_from (Close ∷ ks) exponent = nodes_from ks false
nodes_from (Glued ∷ ks) exponent = nodes_from ks false
nodes_from (Wrong ∷ ks) exponent = nodes_from ks false

abbrev pub nodes_in : List Kind → ℕ
nodes_in ks = nodes_from ks false

-- ---- nesting
-- a formula that is written with these tokens at its start nests no deeper than it may
pub record MayNest (ks : List Kind) : Type 0 where
  pub more : List Kind
  pub written : Written
  pub grammatical : IsGrammatical written
  pub spelt : spelling written ≡ ks ++ more
  pub nested : nesting written ≤ deepest

-- ---- the rules at one token
abbrev pub IsName : Kind → Type 0
IsName k = (name : List ℕ) × (k ≡ Name name)

-- a number that is no bound, and one that is not from 1 to 9
abbrev pub IsNoBound : Kind → Type 0
IsNoBound k = (power : Option ℕ) × (k ≡ NumberToken None power)

abbrev pub IsNoPower : Kind → Type 0
IsNoPower k = (value : Option Bound) × (k ≡ NumberToken value None)

abbrev pub Opens : List Kind → Type 0
Opens ks = (rest : List Kind) × (ks ≡ Open ∷ rest)

-- a token of kind k, between the tokens before and after it, breaks the rule of the refusal: no text of the
-- grammar goes on with it; it is a name before a parenthesis, an operand that is no bound, an exponent that
-- is not from 1 to 9; it is the first with which each formula nests too deep; it is one node too many
abbrev pub Breaks : FormulaFault → List Kind → Kind → List Kind → Type 0
Breaks (Syntax at) before k after = GoesOn (before ++ k ∷ []) → ⊥
Breaks (UnknownFunction at) before k after = IsName k × Opens after
Breaks (Number fault at) before k after = (fault ≡ NumberRange) × (IsNoBound k × (IsBeforeExponent before → ⊥))
Breaks (BadPower at) before k after = IsNoPower k × IsBeforeExponent before
Breaks (TooDeep at) before k after = (nests k ≡ true) × (MayNest before × (MayNest (before ++ k ∷ []) → ⊥))
Breaks (TooMany at) before k after = (nodes_in before ≡ most_nodes) × (nodes_in (before ++ k ∷ []) ≡ suc most_nodes)
Breaks OutOfMemory before k after = ⊥

-- which of the rules that one token breaks comes first. None breaks two of those with the same number
abbrev pub order : FormulaFault → ℕ
order (Syntax at) = 0
order (UnknownFunction at) = 1
order (Number fault at) = 1
order (BadPower at) = 1
order (TooDeep at) = 2
order (TooMany at) = 3
order OutOfMemory = 4

-- the place of a refusal, counted from 0 within the text; being out of memory has none
abbrev pub place_of : FormulaFault → Option ℕ
place_of (Syntax at) = Some at
place_of (UnknownFunction at) = Some at
place_of (Number fault at) = Some at
place_of (BadPower at) = Some at
place_of (TooDeep at) = Some at
place_of (TooMany at) = Some at
place_of OutOfMemory = None

-- the refusal is that of the first token which breaks a rule, and a text of the grammar goes on with it.
-- `first`: it breaks no rule that comes before; `kept`: no token before it breaks a rule
pub record IsFirstBroken (text : List ℕ) (fault : FormulaFault) : Type 0 where
  pub before : List Token
  pub token : Token
  pub after : List Token
  pub parts : before ++ token ∷ after ≡ tokens text 0 0
  pub place : place_of fault ≡ Some token.place
  pub goes_on : GoesOn (kinds before ++ token.kind ∷ [])
  pub breaks : Breaks fault (kinds before) token.kind (kinds after)
  pub first : (other : FormulaFault) → order other < order fault → Breaks other (kinds before) token.kind (kinds after) → ⊥
  pub kept : (b c : List Token) (t : Token) → b ++ t ∷ c ≡ before
      → (other : FormulaFault) → Breaks other (kinds b) t.kind (kinds (c ++ token ∷ after)) → ⊥

abbrev pub IsSyntax : FormulaFault → Type 0
IsSyntax fault = (at : ℕ) × (fault ≡ Syntax at)
