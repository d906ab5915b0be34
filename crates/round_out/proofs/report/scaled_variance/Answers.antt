use Rattle.std.proofs.Common.{rules}
use Rattle.fixed_interval.proofs.Sums.{there}
use Rattle.round_out.proofs.Lower.{scaled_not_negative}
use Rattle.round_out.proofs.report.scaled_variance.Goals as goal

pub returns-clause-not_negative : goal.returns-clause-not_negative
returns-clause-not_negative g c =
    scaled_not_negative c.args.k.now c.args.v.now c.in-Ok.square c.mul.result _ (there _ _ _ c.in-Ok.ensures.span) c.mul.ensures.span
    c.requires.not_negative (search rules) (search rules)
