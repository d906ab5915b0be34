use Rattle.std.proofs.Common.{arith}
use Rattle.formula_ast.proofs.FirstTokenSteps.{open_first}
use Rattle.formula_ast.proofs.lexer.opens.Goals as goal

pub returns : goal.returns
returns c = λ at. open_first c.args.text.now at c.requires (omega (arith, c.in-len1-up.len_at_least))
