-- What is said of the reading and the grammar together.
use Rattle.std.specs.Prelude.{◌≡◌, ℕ, suc, ◌+◌, ◌≤◌, max, List, [], ◌∷◌, ◌++◌, Some, None, Result, Ok, Err}
use Rattle.formula_ast.specs.Trees.{Tree, nodes}
use Rattle.formula_ast.specs.Tokens.{Token, tokens, kinds}
use Rattle.formula_ast.specs.Grammar.{Written, Digits, Word, Minused, Both, Powered, Group, meant, SpellsText, GoesOn}
use Rattle.formula_ast.specs.Reading.{deepest, most_nodes}
use Rattle.formula_ast.specs.declared.token.Kind.{Kind}
use Rattle.formula_ast.specs.declared.token.Kind.TheVariants.{Number as NumberToken, Glued}
use Rattle.formula_ast.specs.declared.fault.FormulaFault.{FormulaFault}
use Rattle.formula_ast.specs.declared.fault.FormulaFault.TheVariants.{Syntax, UnknownFunction, Number, BadPower, TooDeep, TooMany, OutOfMemory}

-- a text that spells f is read as f, or one of the rules beyond the grammar refuses it
abbrev pub IsReadOrRuled : Result Tree FormulaFault → Tree → Type 0
IsReadOrRuled (Ok g) f = g ≡ f
IsReadOrRuled (Err (Syntax at)) f = ⊥
IsReadOrRuled (Err (UnknownFunction at)) f = Unit {0}
IsReadOrRuled (Err (Number fault at)) f = Unit {0}
IsReadOrRuled (Err (BadPower at)) f = Unit {0}
IsReadOrRuled (Err (TooDeep at)) f = Unit {0}
IsReadOrRuled (Err (TooMany at)) f = Unit {0}
IsReadOrRuled (Err OutOfMemory) f = ⊥

-- ---- what is read
-- each number is a bound, and each exponent is from 1 to 9
abbrev pub HasBounds : Written → Type 0
HasBounds (Digits None power) = ⊥
HasBounds (Digits (Some b) power) = Unit {0}
HasBounds (Word name) = Unit {0}
HasBounds (Minused a) = HasBounds a
HasBounds (Both s a b) = HasBounds a × HasBounds b
HasBounds (Powered a minus value None) = ⊥
HasBounds (Powered a minus value (Some n)) = HasBounds a
HasBounds (Group a) = HasBounds a

-- the most parentheses and prefix minuses that are open at one place
abbrev pub nesting : Written → ℕ
nesting (Digits value power) = 0
nesting (Word name) = 0
nesting (Minused a) = suc (nesting a)
nesting (Both s a b) = max (nesting a) (nesting b)
nesting (Powered a minus value power) = nesting a
nesting (Group a) = suc (nesting a)

pub record IsWithinLimits (c : Written) : Type 0 where
  pub bounds : HasBounds c
  pub nested : nesting c ≤ deepest
  pub few : nodes (meant c) ≤ most_nodes

-- the text spells f, within the limits
pub record IsFormula (text : List ℕ) (f : Tree) : Type 0 where
  pub spells : SpellsText text f
  pub limits : IsWithinLimits spells.written

-- ---- where the grammar does not go on
-- a text of the grammar goes on after these tokens with a number
abbrev pub MayBeNumber : List Kind → Type 0
MayBeNumber ks = GoesOn (ks ++ NumberToken None None ∷ [])

-- the place of the first token with which no text of the grammar goes on; or the place after it, where a
-- number may stand there and it is one with a letter, a digit, `_` or a point directly after it
pub record IsFirstWrong (text : List ℕ) (at : ℕ) : Type 0 where
  pub before : List Token
  pub token : Token
  pub after : List Token
  pub parts : before ++ token ∷ after ≡ tokens text 0 0
  pub goes_on : GoesOn (kinds before)
  pub stops : GoesOn (kinds (before ++ token ∷ [])) → ⊥
  pub at_glued : token.kind ≡ Glued → MayBeNumber (kinds before) → at ≡ token.place + token.len
  pub at_other : (token.kind ≡ Glued → MayBeNumber (kinds before) → ⊥) → at ≡ token.place
