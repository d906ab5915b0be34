use Rattle.type_a.proofs.Sizes.{never_great}
use Rattle.type_a.proofs.coefficients.is_great.Goals as goal

pub returns-then-places-gt8 : goal.returns-then-places-gt8
returns-then-places-gt8 c = never_great c.args.size c.args.places c.requires.digits c.if-places-gt8.true
