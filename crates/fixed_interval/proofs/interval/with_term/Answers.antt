use Rattle.fixed_interval.proofs.SumLoops.{refused_more, more_there}
use Rattle.fixed_interval.proofs.interval.with_term.Goals as goal

pub returns-in_err-next-clause-sum : goal.returns-in_err-next-clause-sum
returns-in_err-next-clause-sum g c = refused_more _ c.from_residual.ensures.0 c.args.sum c.args.term.now _ _ c.in_err-next.ensures.span

pub returns-clause-sum : goal.returns-clause-sum
returns-clause-sum g c = more_there c.args.sum c.args.term.now _ _ c.in_ok-next.ensures.span
