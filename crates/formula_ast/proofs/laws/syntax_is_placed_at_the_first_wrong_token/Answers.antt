use Rattle.formula_ast.proofs.SyntaxPlaces.{syntax_at_end, syntax_at_token}
use Rattle.formula_ast.proofs.laws.syntax_is_placed_at_the_first_wrong_token.Goals as goal

pub returns-clause-end : goal.returns-clause-end
returns-clause-end c = syntax_at_end

pub returns-clause-token : goal.returns-clause-token
returns-clause-token c = syntax_at_token
