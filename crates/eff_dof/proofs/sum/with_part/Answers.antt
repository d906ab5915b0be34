use Rattle.std.proofs.Common.{rules}
use Rattle.fixed_interval.proofs.SumLoops.{refused_part, part_there}
use Rattle.eff_dof.specs.Degrees.{counts, term}
use Rattle.eff_dof.proofs.sum.with_part.Goals as goal

pub returns-in_err-term-clause-sum : goal.returns-in_err-term-clause-sum
returns-in_err-term-clause-sum g c =
    refused_part _ c.from_residual.ensures.0 c.args.sum (term c.args.whole.now c.args.part.now) _ _ c.in_err-term.ensures.span (counts c.args.part.now) (search rules)

pub returns-clause-sum : goal.returns-clause-sum
returns-clause-sum g c =
    part_there _ c.args.sum (term c.args.whole.now c.args.part.now) _ _ c.in_ok-term.ensures.span c.with_term.ensures.sum (counts c.args.part.now) (search rules)
