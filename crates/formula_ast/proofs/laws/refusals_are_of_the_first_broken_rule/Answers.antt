use Rattle.formula_ast.proofs.TokensRead.{nodes_spelt}
use Rattle.formula_ast.proofs.Refusals.{refused_at_first, first_is_refused}
use Rattle.formula_ast.proofs.laws.refusals_are_of_the_first_broken_rule.Goals as goal

pub returns-clause-refused : goal.returns-clause-refused
returns-clause-refused c = refused_at_first

pub returns-clause-comes : goal.returns-clause-comes
returns-clause-comes c = first_is_refused

pub returns-clause-counted : goal.returns-clause-counted
returns-clause-counted c = nodes_spelt
