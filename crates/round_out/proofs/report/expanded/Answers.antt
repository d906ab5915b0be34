use Rattle.std.proofs.Common.{rules}
use Rattle.fixed_interval.proofs.Sums.{missing, there}
use Rattle.round_out.proofs.Reporting.{expanded_missing, expanded_there, expanded_unsettled}
use Rattle.round_out.proofs.report.expanded.Goals as goal

pub returns-then-not-is_point-clause-exact : goal.returns-then-not-is_point-clause-exact
returns-then-not-is_point-clause-exact g c = expanded_unsettled c.args.y.now c.args.v.now c.args.k.now (search rules)

pub returns-in_default-clause-exact : goal.returns-in_default-clause-exact
returns-in_default-clause-exact g c =
    expanded_missing c.args.y.now c.args.v.now c.args.k.now (record {}) (search rules) (missing _ _ _ c.in_default.ensures.span)

pub returns-clause-exact : goal.returns-clause-exact
returns-clause-exact g c =
    expanded_there c.args.y.now c.args.v.now c.args.k.now c.in-Ok.variance c.reported.result (search rules) (there _ _ _ c.in-Ok.ensures.span)
    c.reported.ensures.exact
