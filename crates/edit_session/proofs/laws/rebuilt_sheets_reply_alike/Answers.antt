use Rattle.edit_session.proofs.Rebuilding.{rebuilt}
use Rattle.edit_session.proofs.laws.rebuilt_sheets_reply_alike.Goals as goal

pub returns : goal.returns
returns c = λ sheet h. rebuilt sheet h
