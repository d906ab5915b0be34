use Rattle.formula_ast.specs.Views.{tree_of}
use Rattle.formula_ast.proofs.Again.{read_again}
use Rattle.edit_session.proofs.tests.formula_of.Goals as goal

pub returns-in-Ok : goal.returns-in-Ok
returns-in-Ok c = read_again c.args.text.now (tree_of c.in-Ok.formula) c.in-Ok.ensures.exact
