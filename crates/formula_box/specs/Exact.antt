-- The exact side of a formula: the expression over names that it is.
use Rattle.std.specs.Prelude.{◌≡◌, ℕ, Bool, true, List, Option, Some, bytes_eq}
use Rattle.exact_fraction.specs.Number.{ℚ}
use Rattle.exact_law.specs.Model.{Expression, Num, Key, Neg, Add, Sub, Mul, Div, Pow, value, slope, unit, is_defined}
use Rattle.decimal18.specs.Bound.{value_of}
use Rattle.fixed_interval.specs.Interval.{Interval, Encloses}
use Rattle.formula_ast.specs.Trees.{Tree, Number, Variable, Opposite, Joined, Raised}
use Rattle.formula_ast.specs.declared.token.Sign.{Sign}
use Rattle.formula_ast.specs.declared.token.Sign.TheVariants.{Plus, Minus, Times, Over}

abbrev pub joined_expression : Sign → Expression (List ℕ) → Expression (List ℕ) → Expression (List ℕ)
joined_expression Plus a b = Add a b
joined_expression Minus a b = Sub a b
joined_expression Times a b = Mul a b
joined_expression Over a b = Div a b

abbrev pub expression_of : Tree → Expression (List ℕ)
expression_of (Number q) = Num (value_of q)
expression_of (Variable n) = Key n
expression_of (Opposite a) = Neg (expression_of a)
expression_of (Joined s a b) = joined_expression s (expression_of a) (expression_of b)
expression_of (Raised a e) = Pow (expression_of a) e

-- each span that is given encloses the value of its name, which is defined
pub record AreEnclosed (given : List ℕ → Option Interval) (v : List ℕ → ℚ) (known : List ℕ → Bool) : Type 0 where
  pub defined : (n : List ℕ) (s : Interval) → given n ≡ Some s → known n ≡ true
  pub enclosed : (n : List ℕ) (s : Interval) → given n ≡ Some s → Encloses s (v n)

-- the formula has a value, and it lies in s
pub record HasValueWithin (v : List ℕ → ℚ) (known : List ℕ → Bool) (f : Tree) (s : Interval) : Type 0 where
  pub defined : is_defined v known (expression_of f) ≡ true
  pub enclosed : Encloses s (value v (expression_of f))

-- the partial derivative of the formula by a name (JCGM 100:2008, 5.1.3)
abbrev pub derivative : (List ℕ → ℚ) → List ℕ → Tree → ℚ
derivative v n f = slope v (unit bytes_eq n) (expression_of f)
