use Rattle.type_b.proofs.Signs.{negative_below_zero, zero_is_zero, above_one}
use Rattle.type_b.proofs.laws.digits_tell_values.Goals as goal

pub returns-clause-negative : goal.returns-clause-negative
returns-clause-negative c = negative_below_zero

pub returns-clause-zero : goal.returns-clause-zero
returns-clause-zero c = zero_is_zero

pub returns-clause-above_one : goal.returns-clause-above_one
returns-clause-above_one c = above_one
