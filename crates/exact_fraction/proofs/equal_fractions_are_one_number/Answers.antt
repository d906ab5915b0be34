use std.Quotient.{eq/, cls-surjective}
use Rattle.exact_fraction.specs.NumberLaws.{≈-of_≡}
use Rattle.exact_fraction.proofs.Quotients.{number_of-parts}
use Rattle.exact_fraction.proofs.equal_fractions_are_one_number.Goals as goal

pub returns-clause-one_number : goal.returns-clause-one_number
returns-clause-one_number c = λ q r. (≈-of_≡ q r, eq/ q r)

pub returns-clause-each_number : goal.returns-clause-each_number
returns-clause-each_number c = cls-surjective

pub returns-clause-parts : goal.returns-clause-parts
returns-clause-parts c = number_of-parts
