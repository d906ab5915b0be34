use Rattle.std.proofs.Common.{refl}
use Rattle.decimal18.specs.Literal.{parsed}
use Rattle.decimal18.proofs.literal_laws.worked_literals.Goals as goal

pub returns-clause-whole : goal.returns-clause-whole
unfolding parsed
returns-clause-whole c = refl

pub returns-clause-zeros : goal.returns-clause-zeros
unfolding parsed
returns-clause-zeros c = refl

pub returns-clause-zero : goal.returns-clause-zero
unfolding parsed
returns-clause-zero c = refl

pub returns-clause-raised : goal.returns-clause-raised
unfolding parsed
returns-clause-raised c = refl

pub returns-clause-least : goal.returns-clause-least
unfolding parsed
returns-clause-least c = refl

pub returns-clause-below_the_least : goal.returns-clause-below_the_least
unfolding parsed
returns-clause-below_the_least c = refl

pub returns-clause-greatest : goal.returns-clause-greatest
unfolding parsed
returns-clause-greatest c = refl

pub returns-clause-above_the_greatest : goal.returns-clause-above_the_greatest
unfolding parsed
returns-clause-above_the_greatest c = refl

pub returns-clause-many_zeros : goal.returns-clause-many_zeros
unfolding parsed
returns-clause-many_zeros c = refl

pub returns-clause-nineteen_digits : goal.returns-clause-nineteen_digits
unfolding parsed
returns-clause-nineteen_digits c = refl

pub returns-clause-largest_exponent : goal.returns-clause-largest_exponent
unfolding parsed
returns-clause-largest_exponent c = refl

pub returns-clause-four_digits : goal.returns-clause-four_digits
unfolding parsed
returns-clause-four_digits c = refl

pub returns-clause-no_digit_after : goal.returns-clause-no_digit_after
unfolding parsed
returns-clause-no_digit_after c = refl

pub returns-clause-no_digit_before : goal.returns-clause-no_digit_before
unfolding parsed
returns-clause-no_digit_before c = refl

pub returns-clause-two_signs : goal.returns-clause-two_signs
unfolding parsed
returns-clause-two_signs c = refl

pub returns-clause-empty : goal.returns-clause-empty
unfolding parsed
returns-clause-empty c = refl
