use Rattle.std.proofs.Common.{rules}
use Rattle.covariance.specs.Gradients.{found_at}
use Rattle.value_cache.specs.Slots.{bodies_of, cells_of}
use Rattle.adjoint_pass.proofs.Terms.{refused_user}
use Rattle.adjoint_pass.proofs.sweep.with_user.Goals as goal

pub returns-in_err-term-clause-sum : goal.returns-in_err-term-clause-sum
returns-in_err-term-clause-sum g c =
    refused_user (bodies_of c.args.cache.now) (cells_of c.args.cache.now) (found_at c.args.found.now) c.args.n c.args.m _ c.from_residual.ensures.0 c.args.sum _ _
    c.in_err-term.ensures.span (search rules)
