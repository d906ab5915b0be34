use Rattle.std.proofs.Common.{rules}
use Rattle.table_g2.proofs.SaidRanges.{answer_holds}
use Rattle.table_g2.proofs.settled.said.Goals as goal

pub returns-in-Range-clause-holds : goal.returns-in-Range-clause-holds
returns-in-Range-clause-holds c = answer_holds c.args.nu.now c.said_of_range.result (search rules) c.requires.degrees
