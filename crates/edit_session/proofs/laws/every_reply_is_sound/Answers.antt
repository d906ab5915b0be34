use Rattle.edit_session.proofs.ReplyLaws.{reply_sound, command_sound}
use Rattle.edit_session.proofs.laws.every_reply_is_sound.Goals as goal

pub returns-clause-of_sheets : goal.returns-clause-of_sheets
returns-clause-of_sheets c = λ sheet h query. reply_sound sheet h query

pub returns-clause-of_commands : goal.returns-clause-of_commands
returns-clause-of_commands c = λ state h command. command_sound state h command
