use Rattle.std.proofs.Common.{rules}
use Rattle.type_a.proofs.Sizes.{zero_from_far}
use Rattle.type_a.proofs.coefficients.coefficient_at.Goals as goal

pub returns-then-exponent-gt15-clause-value : goal.returns-then-exponent-gt15-clause-value
returns-then-exponent-gt15-clause-value c = zero_from_far c.args.places c.args.d c.requires (search rules)
