use Rattle.std.proofs.Common.{arith}
use Rattle.std.proofs.lemmas.Int.{to_z-of_z}
use Rattle.plain_law.specs.Numbers.{number}
use Rattle.plain_law.proofs.Quotient.{whole_by}
use Rattle.plain_law.proofs.fraction.Exact.whole.Goals as goal

pub returns : goal.returns
unfolding number
returns c = whole_by c.args.value c.is_negative.result c.unsigned_abs.result (grind (arith, to_z-of_z))
