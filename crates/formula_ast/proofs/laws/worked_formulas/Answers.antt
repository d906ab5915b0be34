use Rattle.std.proofs.Common.{refl}
use Rattle.std.specs.Fmt.{digits}
use Rattle.decimal18.specs.Literal.{parsed}
use Rattle.formula_ast.specs.Reading.{reading_of}
use Rattle.formula_ast.proofs.laws.worked_formulas.Goals as goal

pub returns-clause-sign_of_power : goal.returns-clause-sign_of_power
unfolding reading_of parsed
returns-clause-sign_of_power c = refl

pub returns-clause-left_grouping : goal.returns-clause-left_grouping
unfolding reading_of parsed
returns-clause-left_grouping c = refl

pub returns-clause-blank : goal.returns-clause-blank
unfolding reading_of parsed
returns-clause-blank c = refl

pub returns-clause-cut_off : goal.returns-clause-cut_off
unfolding reading_of parsed
returns-clause-cut_off c = refl

pub returns-clause-two_numbers : goal.returns-clause-two_numbers
unfolding reading_of parsed
returns-clause-two_numbers c = refl

pub returns-clause-glued : goal.returns-clause-glued
unfolding reading_of parsed
returns-clause-glued c = refl

pub returns-clause-two_points : goal.returns-clause-two_points
unfolding reading_of parsed
returns-clause-two_points c = refl

pub returns-clause-four_digits : goal.returns-clause-four_digits
unfolding reading_of parsed
returns-clause-four_digits c = refl

pub returns-clause-three_names : goal.returns-clause-three_names
unfolding reading_of parsed
returns-clause-three_names c = refl

pub returns-clause-function : goal.returns-clause-function
unfolding reading_of parsed
returns-clause-function c = refl

pub returns-clause-out_of_range : goal.returns-clause-out_of_range
unfolding reading_of parsed
returns-clause-out_of_range c = refl

pub returns-clause-power_with_point : goal.returns-clause-power_with_point
unfolding reading_of parsed
returns-clause-power_with_point c = refl

pub returns-clause-power_of_zero : goal.returns-clause-power_of_zero
unfolding reading_of parsed
returns-clause-power_of_zero c = refl

pub returns-clause-power_out_of_range : goal.returns-clause-power_out_of_range
unfolding reading_of parsed
returns-clause-power_out_of_range c = refl

pub returns-clause-deep : goal.returns-clause-deep
unfolding reading_of parsed
returns-clause-deep c = refl

pub returns-clause-printed : goal.returns-clause-printed
unfolding digits
returns-clause-printed c = refl
