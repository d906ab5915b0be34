use Rattle.round_out.proofs.Ends.{stated-unique}
use Rattle.round_out.proofs.Said.{said-unique}
use Rattle.round_out.proofs.laws.one_answer.Goals as goal

pub returns : goal.returns
returns c = record { digits = stated-unique; correlation = said-unique }
