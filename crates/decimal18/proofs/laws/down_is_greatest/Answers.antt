use Rattle.decimal18.proofs.Rounding.{down_some, some_down, down_none, none_down}
use Rattle.decimal18.proofs.laws.down_is_greatest.Goals as goal

pub returns-clause-some : goal.returns-clause-some
returns-clause-some c = λ x b. (down_some x b, λ h. some_down x b h.0 h.1 h.2)

pub returns-clause-none : goal.returns-clause-none
returns-clause-none c = λ x. (down_none x, none_down x)
