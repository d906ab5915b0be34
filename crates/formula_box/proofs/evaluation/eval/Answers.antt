use Rattle.formula_box.specs.Values.{span_of}
use Rattle.formula_box.proofs.evaluation.eval.Goals as goal

pub returns-clause-span : goal.returns-clause-span
unfolding span_of
returns-clause-span g c = c.eval_from.ensures.span
