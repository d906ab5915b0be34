use Rattle.formula_ast.proofs.LongestLiterals.{number_is_literal, number_is_longest}
use Rattle.formula_ast.proofs.laws.number_tokens_are_longest_literals.Goals as goal

pub returns-clause-literal : goal.returns-clause-literal
returns-clause-literal c = number_is_literal

pub returns-clause-longest : goal.returns-clause-longest
returns-clause-longest c = number_is_longest
