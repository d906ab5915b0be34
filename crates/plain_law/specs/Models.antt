-- The crate's models as those of the definitions: a row's key is its place.
use Rattle.std.specs.Prelude.{◌≡◌, ℕ, suc, Bool, true, false, ⊤, Option, Some, None, Result, Ok, Err, List, [], ◌∷◌}
use Rattle.exact_fraction.specs.Number.{ℚ}
use Rattle.exact_law.specs.Model.{Expression, Num, Key, Neg, Add, Sub, Mul, Div, Pow, Row, Body, Input, Formula, is_defined, value, slope}
use Rattle.plain_law.specs.declared.fraction.Exact.{Exact}
use Rattle.plain_law.specs.declared.model.Failure.{Failure}
use Rattle.plain_law.specs.declared.model.Failure.TheVariants.{Undefined, TooWide}
use Rattle.plain_law.specs.declared.model.Expression.{Expression as Written}
use Rattle.plain_law.specs.declared.model.Expression.TheVariants.{Num as ANum, Key as AKey, Neg' as ANeg, Add' as AnAdd, Sub' as ASub, Mul' as AMul, Div' as ADiv, Pow' as APow}
use Rattle.plain_law.specs.declared.model.Body.{Body as WrittenBody}
use Rattle.plain_law.specs.declared.model.Body.TheVariants.{Input as AnInput, Formula as AFormula}
use Rattle.plain_law.specs.declared.jet.Jet.{Jet}
use Rattle.plain_law.specs.Numbers.{number}

-- the expression that is written; each box stands as a pointer before what it points to
abbrev pub expression : Written → Expression ℕ
expression (ANum q) = Num (number q)
expression (AKey n) = Key n
expression (ANeg p a) = Neg (expression a)
expression (AnAdd p a q b) = Add (expression a) (expression b)
expression (ASub p a q b) = Sub (expression a) (expression b)
expression (AMul p a q b) = Mul (expression a) (expression b)
expression (ADiv p a q b) = Div (expression a) (expression b)
expression (APow p a n) = Pow (expression a) n

abbrev pub body : WrittenBody → Body ℕ
body (AnInput q) = Input (number q)
body (AFormula f) = Formula (expression f)

-- the rows, of which the first has the key k
unfoldable pub rows_from : ℕ → List WrittenBody → List (Row ℕ)
rows_from k [] = []
rows_from k (b ∷ bs) = record { key = k; body = body b } ∷ rows_from (suc k) bs

abbrev pub rows : List WrittenBody → List (Row ℕ)
rows bodies = rows_from 0 bodies

-- the answer is the number where there is one, and none where it is not defined; that 128 bits hold the
-- numbers on the way is not said
abbrev pub IsAnswer : Result Exact Failure → Option ℚ → Type 0
IsAnswer (Ok q) x = x ≡ Some (number q)
IsAnswer (Err Undefined) x = x ≡ None
IsAnswer (Err TooWide) x = ⊤

-- the jet has the value of f and its derivative along d, which are defined; v has the values of the keys,
-- and known says which of them have one
pub record IsJetOf (v d : ℕ → ℚ) (known : ℕ → Bool) (f : Expression ℕ) (j : Jet) : Type 0 where
  pub defined : is_defined v known f ≡ true
  pub value_is : number j.value ≡ value v f
  pub slope_is : number j.slope ≡ slope v d f

-- the same where there is one, and else f is not defined, or 128 bits do not hold a number
abbrev pub IsJetOrFailure : (ℕ → ℚ) → (ℕ → ℚ) → (ℕ → Bool) → Expression ℕ → Result Jet Failure → Type 0
IsJetOrFailure v d known f (Ok j) = IsJetOf v d known f j
IsJetOrFailure v d known f (Err Undefined) = is_defined v known f ≡ false
IsJetOrFailure v d known f (Err TooWide) = ⊤
