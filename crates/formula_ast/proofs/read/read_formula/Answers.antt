use Rattle.formula_ast.proofs.Exponents.{given_spelt, given_exponents}
use Rattle.formula_ast.proofs.FaultPlaces.{fault_within}
use Rattle.formula_ast.proofs.read.read_formula.Goals as goal

pub returns-clause-spelt : goal.returns-clause-spelt
returns-clause-spelt c = given_spelt c.args.text.now c.read_whole.result c.read_whole.ensures

pub returns-clause-exponents : goal.returns-clause-exponents
returns-clause-exponents c = given_exponents c.args.text.now c.read_whole.result c.read_whole.ensures

pub returns-clause-within : goal.returns-clause-within
returns-clause-within c = fault_within c.args.text.now c.read_whole.result c.read_whole.ensures
