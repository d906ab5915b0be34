use Rattle.formula_ast.proofs.Again.{read_again, fewest_parentheses}
use Rattle.formula_ast.proofs.laws.printed_text_is_read_again.Goals as goal

pub returns-clause-again : goal.returns-clause-again
returns-clause-again c = read_again

pub returns-clause-fewest : goal.returns-clause-fewest
returns-clause-fewest c = fewest_parentheses
