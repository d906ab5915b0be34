use Rattle.std.proofs.Common.{refl}
use Rattle.std.specs.Fmt.{digits}
use Rattle.decimal18.proofs.laws.worked_texts.Goals as goal

pub returns-clause-zero : goal.returns-clause-zero
unfolding digits
returns-clause-zero c = refl

pub returns-clause-minus_twelve : goal.returns-clause-minus_twelve
unfolding digits
returns-clause-minus_twelve c = refl

pub returns-clause-above_one : goal.returns-clause-above_one
unfolding digits
returns-clause-above_one c = refl

pub returns-clause-minus_half : goal.returns-clause-minus_half
unfolding digits
returns-clause-minus_half c = refl

pub returns-clause-tiny : goal.returns-clause-tiny
unfolding digits
returns-clause-tiny c = refl
