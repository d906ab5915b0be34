use Rattle.guard_band.proofs.OneAnswer.{answer-unique}
use Rattle.guard_band.proofs.laws.one_answer.Goals as goal

pub returns : goal.returns
returns c = answer-unique
