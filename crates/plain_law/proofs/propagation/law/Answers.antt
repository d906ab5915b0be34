use Rattle.plain_law.proofs.Values.{both-failed_first, both-failed_second, both-answer}
use Rattle.exact_law.specs.Law.{law_where_defined}
use Rattle.plain_law.proofs.propagation.law.Goals as goal

pub returns-in_err-_first : goal.returns-in_err-_first
unfolding law_where_defined
returns-in_err-_first c =
    both-failed_first c.args.model.now c.args.y c.args.z _ _ _ c.from_residual.ensures.1 c.in_err-_first.ensures

pub returns-in_err-_second : goal.returns-in_err-_second
unfolding law_where_defined
returns-in_err-_second c =
    both-failed_second c.args.model.now c.args.y c.args.z _ _ _ c.from_residual-in_err-_second.ensures.1 c.in_err-_second.ensures

pub returns-in-Some : goal.returns-in-Some
unfolding law_where_defined
returns-in-Some c =
    both-answer c.args.model.now c.args.y c.args.z _ _ _ _ c.in_ok-_first.ensures c.in_ok-_second.ensures c.in-Some.ensures
