use Rattle.plain_law.proofs.Values.{part-failed, part-answer}
use Rattle.exact_law.specs.Law.{part_where_defined}
use Rattle.plain_law.proofs.propagation.part_of.Goals as goal

pub returns-in_err-_value : goal.returns-in_err-_value
unfolding part_where_defined
returns-in_err-_value c = part-failed c.args.model.now c.args.y _ _ _ c.from_residual.ensures.1 c.in_err-_value.ensures

pub returns-in-Some : goal.returns-in-Some
unfolding part_where_defined
returns-in-Some c = part-answer c.args.model.now c.args.y _ _ _ c.in_ok-_value.ensures c.in-Some.ensures
