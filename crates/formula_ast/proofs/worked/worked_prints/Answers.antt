use Rattle.std.proofs.Common.{refl}
use Rattle.std.specs.Fmt.{digits}
use Rattle.formula_ast.proofs.worked.worked_prints.Goals as goal

pub returns-clause-product : goal.returns-clause-product
unfolding digits
returns-clause-product c = refl

pub returns-clause-difference : goal.returns-clause-difference
unfolding digits
returns-clause-difference c = refl

pub returns-clause-to_the_left : goal.returns-clause-to_the_left
unfolding digits
returns-clause-to_the_left c = refl

pub returns-clause-powers : goal.returns-clause-powers
unfolding digits
returns-clause-powers c = refl

pub returns-clause-opposite_of_power : goal.returns-clause-opposite_of_power
unfolding digits
returns-clause-opposite_of_power c = refl

pub returns-clause-number : goal.returns-clause-number
unfolding digits
returns-clause-number c = refl
