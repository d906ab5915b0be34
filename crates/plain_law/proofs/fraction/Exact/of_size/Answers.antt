use Rattle.std.specs.Prelude.{refl}
use Rattle.plain_law.specs.Numbers.{number, signed}
use Rattle.plain_law.proofs.Quotient.{whole_by}
use Rattle.plain_law.proofs.fraction.Exact.of_size.Goals as goal

pub returns : goal.returns
unfolding number
returns c = whole_by (signed c.args.negative c.args.size) c.args.negative c.args.size refl
