use Rattle.round_out.proofs.Literals.{text_literal}
use Rattle.round_out.proofs.laws.texts_are_literals.Goals as goal

pub returns : goal.returns
returns c = text_literal
