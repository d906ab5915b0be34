use Rattle.formula_ast.proofs.Exponents.{read_exponents}
use Rattle.formula_ast.proofs.laws.what_is_read_has_exponents.Goals as goal

pub returns : goal.returns
returns c = λ text f h. read_exponents text f h
