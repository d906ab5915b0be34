use Rattle.std.proofs.Common.{sym, rules}
use Rattle.type_a.specs.Tables.{table_of}
use Rattle.type_a.proofs.Accepted.{length_table}
use Rattle.type_a.proofs.Exact.{mean_is}
use Rattle.type_a.proofs.sums.mean.Goals as goal

pub returns : goal.returns
returns c =
    mean_is (table_of c.args.records.now) c.requires.taken.taken c.args.column c.requires.column c.in-Some.mean c.sum-sum.result _ c.args.places (search rules) (search rules)
    (sym (length_table c.args.records.now)) c.requires.taken.finest (search rules)
