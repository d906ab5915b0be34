use Rattle.std.proofs.Common.{sym, rules, subst}
use Rattle.std.specs.Prelude.{◌≤◌, length}
use Rattle.type_a.specs.Tables.{table_of}
use Rattle.type_a.proofs.Accepted.{length_table, at_least_two, at_most_thousand}
use Rattle.type_a.proofs.Exact.{joint_is}
use Rattle.type_a.proofs.sums.joint.Goals as goal

pub spread-requires-clause-few : goal.spread-requires-clause-few
spread-requires-clause-few c = subst (λ n. n ≤ 1000) (length_table c.args.records.now) (at_most_thousand (table_of c.args.records.now) c.requires.taken.taken)

pub divisor-requires-clause-some : goal.divisor-requires-clause-some
divisor-requires-clause-some c = subst (λ n. 2 ≤ n) (length_table c.args.records.now) (at_least_two (table_of c.args.records.now) c.requires.taken.taken)

pub divisor-requires-clause-few : goal.divisor-requires-clause-few
divisor-requires-clause-few c = subst (λ n. n ≤ 1000) (length_table c.args.records.now) (at_most_thousand (table_of c.args.records.now) c.requires.taken.taken)

pub returns : goal.returns
returns c =
    let sums = c.sum_both-sums.result in
    joint_is (table_of c.args.records.now) c.requires.taken.taken c.args.a c.args.b c.requires.first c.requires.second c.in-Some.joint sums.products sums.first sums.second
    (length c.args.records.now) c.divisor.result c.args.places (search rules) (search rules) (search rules) (sym (length_table c.args.records.now)) c.requires.taken.finest
    c.sum_both-sums.ensures.sums.products c.sum_both-sums.ensures.sums.first c.sum_both-sums.ensures.sums.second
