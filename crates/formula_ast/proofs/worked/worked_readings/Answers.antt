use Rattle.std.proofs.Common.{refl}
use Rattle.decimal18.specs.Literal.{parsed}
use Rattle.formula_ast.specs.Reading.{reading_of}
use Rattle.formula_ast.proofs.worked.worked_readings.Goals as goal

pub returns-clause-third : goal.returns-clause-third
unfolding reading_of parsed
returns-clause-third c = refl

pub returns-clause-product : goal.returns-clause-product
unfolding reading_of parsed
returns-clause-product c = refl

pub returns-clause-difference : goal.returns-clause-difference
unfolding reading_of parsed
returns-clause-difference c = refl

pub returns-clause-to_the_left : goal.returns-clause-to_the_left
unfolding reading_of parsed
returns-clause-to_the_left c = refl

pub returns-clause-powers : goal.returns-clause-powers
unfolding reading_of parsed
returns-clause-powers c = refl

pub returns-clause-opposite_of_power : goal.returns-clause-opposite_of_power
unfolding reading_of parsed
returns-clause-opposite_of_power c = refl

pub returns-clause-column : goal.returns-clause-column
unfolding reading_of parsed
returns-clause-column c = refl

pub returns-clause-number : goal.returns-clause-number
unfolding reading_of parsed
returns-clause-number c = refl
