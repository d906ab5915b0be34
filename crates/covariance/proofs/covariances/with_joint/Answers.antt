use Rattle.fixed_interval.proofs.SumLoops.{one_there, refused_one}
use Rattle.covariance.proofs.covariances.with_joint.Goals as goal

pub returns-in_err-term-clause-sum : goal.returns-in_err-term-clause-sum
returns-in_err-term-clause-sum g c = refused_one _ c.from_residual.ensures.0 c.args.sum _ _ _ c.in_err-term.ensures.span

pub returns-clause-sum : goal.returns-clause-sum
returns-clause-sum g c = one_there c.args.sum _ _ _ _ c.in_ok-term.ensures.span c.with_term.ensures.sum
