use Rattle.decimal18.proofs.Upward.{up_some, some_up, up_none, none_up}
use Rattle.decimal18.proofs.laws.up_is_least.Goals as goal

pub returns-clause-some : goal.returns-clause-some
returns-clause-some c = λ x b. (up_some x b, λ h. some_up x b h.0 h.1 h.2)

pub returns-clause-none : goal.returns-clause-none
returns-clause-none c = λ x. (up_none x, none_up x)
