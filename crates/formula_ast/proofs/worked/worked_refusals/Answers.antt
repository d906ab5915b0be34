use Rattle.std.proofs.Common.{refl}
use Rattle.decimal18.specs.Literal.{parsed}
use Rattle.formula_ast.specs.Reading.{reading_of}
use Rattle.formula_ast.proofs.worked.worked_refusals.Goals as goal

pub returns-clause-function : goal.returns-clause-function
unfolding reading_of parsed
returns-clause-function c = refl

pub returns-clause-power : goal.returns-clause-power
unfolding reading_of parsed
returns-clause-power c = refl

pub returns-clause-glued : goal.returns-clause-glued
unfolding reading_of parsed
returns-clause-glued c = refl

pub returns-clause-range : goal.returns-clause-range
unfolding reading_of parsed
returns-clause-range c = refl

pub returns-clause-empty : goal.returns-clause-empty
unfolding reading_of parsed
returns-clause-empty c = refl

pub returns-clause-blanks_at_the_end : goal.returns-clause-blanks_at_the_end
unfolding reading_of parsed
returns-clause-blanks_at_the_end c = refl

pub returns-clause-two_points : goal.returns-clause-two_points
unfolding reading_of parsed
returns-clause-two_points c = refl

pub returns-clause-deep : goal.returns-clause-deep
unfolding reading_of parsed
returns-clause-deep c = refl

pub returns-clause-many : goal.returns-clause-many
unfolding reading_of parsed
returns-clause-many c = refl
