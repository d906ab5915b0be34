use Rattle.std.proofs.Common.{rules, arith}
use Rattle.covariance.specs.Gradients.{found_at}
use Rattle.covariance.specs.Groups.{group_of}
use Rattle.covariance.specs.Variances.{group_variance_span, meets}
use Rattle.fixed_interval.proofs.SumLoops.{refused_part, part_there}
use Rattle.covariance.specs.Costs.{pairs}
use Rattle.covariance.proofs.Counting.{meets_pair, group_spent, at_most_one_more}
use Rattle.covariance.proofs.variances.with_group.Goals as goal

pub returns-in_err-term-clause-sum : goal.returns-in_err-term-clause-sum
returns-in_err-term-clause-sum g c =
    refused_part _ c.from_residual.ensures.0 c.args.sum (group_variance_span (found_at c.args.y.now) (group_of c.args.group.now)) _ _ c.in_err-term.ensures.span
    (meets (found_at c.args.y.now) (group_of c.args.group.now)) (search rules)

pub returns-clause-sum : goal.returns-clause-sum
returns-clause-sum g c =
    part_there _ c.args.sum (group_variance_span (found_at c.args.y.now) (group_of c.args.group.now)) _ _ c.in_ok-term.ensures.span c.with_term.ensures.sum
    (meets (found_at c.args.y.now) (group_of c.args.group.now)) (search rules)

pub returns-in_err-term-clause-ticks : goal.returns-in_err-term-clause-ticks
returns-in_err-term-clause-ticks g c =
    group_spent (meets (found_at c.args.y.now)) (group_of c.args.group.now) (search rules) (meets_pair (found_at c.args.y.now) (group_of c.args.group.now) (search rules))
    c.args.steps.now c.group_variance.new.steps (omega (arith, c.in_err-term.ensures.ticks))

pub returns-clause-ticks : goal.returns-clause-ticks
returns-clause-ticks g c =
    group_spent (meets (found_at c.args.y.now)) (group_of c.args.group.now) (search rules) (meets_pair (found_at c.args.y.now) (group_of c.args.group.now) (search rules))
    c.args.steps.now c.with_term.new.steps (at_most_one_more c.group_variance.new.steps c.with_term.new.steps c.args.steps.now c.args.sum (pairs (group_of c.args.group.now)) (omega (arith, c.in_ok-term.ensures.ticks)) c.with_term.ensures.ticks)
