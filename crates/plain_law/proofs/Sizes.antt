-- How much is left of the expansion of a formula.
use Rattle.std.specs.Prelude.{ℕ, ◌+◌, List, [], ◌∷◌}
use Rattle.plain_law.specs.declared.model.Expression.{Expression}
use Rattle.plain_law.specs.declared.model.Expression.TheVariants.{Num, Key, Neg', Add', Sub', Mul', Div', Pow'}
use Rattle.plain_law.specs.declared.model.Body.{Body}
use Rattle.plain_law.specs.declared.model.Body.TheVariants.{Input, Formula}

abbrev pub size : Expression → ℕ
size (Num q) = 1
size (Key n) = 1
size (Neg' p a) = size a + 1
size (Add' p a q b) = size a + size b + 1
size (Sub' p a q b) = size a + size b + 1
size (Mul' p a q b) = size a + size b + 1
size (Div' p a q b) = size a + size b + 1
size (Pow' p a n) = size a + 1

abbrev pub body_size : Body → ℕ
body_size (Input q) = 0
body_size (Formula f) = size f

abbrev pub model_size : List Body → ℕ
model_size [] = 0
model_size (b ∷ bs) = body_size b + model_size bs
