use Rattle.std.proofs.Common.{arith}
use Rattle.decimal18.proofs.Counting.{all_kept}
use Rattle.decimal18.proofs.round.first_digits.Goals as goal

pub returns-clause-some : goal.returns-clause-some
returns-clause-some c = all_kept c.args.digits c.args.places c.args.lost (omega arith) (omega arith)
