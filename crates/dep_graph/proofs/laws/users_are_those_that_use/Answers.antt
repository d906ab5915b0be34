use Rattle.dep_graph.proofs.Chains.{used-user, user-uses, users-depend, depend-users}
use Rattle.dep_graph.proofs.laws.users_are_those_that_use.Goals as goal

pub returns-clause-direct : goal.returns-clause-direct
returns-clause-direct c = λ nodes once y n. (user-uses nodes once y n, used-user nodes y n)

pub returns-clause-reached : goal.returns-clause-reached
returns-clause-reached c = λ nodes once y n. (users-depend nodes once y n, depend-users nodes y n)
