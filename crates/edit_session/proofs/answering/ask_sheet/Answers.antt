use Rattle.std.proofs.Common.{sym}
use Rattle.edit_session.specs.Replies.{answer_in}
use Rattle.edit_session.specs.Sound.{IsSoundAnswer}
use Rattle.edit_session.proofs.Found.{of_ok}
use Rattle.edit_session.proofs.ReplyLaws.{answer_sound, sound_regular}
use Rattle.edit_session.proofs.Asking.{stop_reply}
use Rattle.edit_session.proofs.answering.ask_sheet.Goals as goal

pub returns-in-Ok-clause-sound : goal.returns-in-Ok-clause-sound
returns-in-Ok-clause-sound g c =
    let sheet = c.args.sheet.now in
    let query = c.args.query.now in
    of_ok (answer_in sheet query) (IsSoundAnswer sheet query) (answer_sound sheet c.rows-rows.ensures.standing query (sym c.in_default.ensures)) c.in-Ok.answer c.in-Ok.ensures

pub returns-in-Ok-clause-regular : goal.returns-in-Ok-clause-regular
returns-in-Ok-clause-regular g c =
    let sheet = c.args.sheet.now in
    let query = c.args.query.now in
    sound_regular sheet c.rows-rows.ensures.standing query c.in-Ok.answer
    (of_ok (answer_in sheet query) (IsSoundAnswer sheet query) (answer_sound sheet c.rows-rows.ensures.standing query (sym c.in_default.ensures)) c.in-Ok.answer c.in-Ok.ensures)

pub returns-in-Err-clause-reply : goal.returns-in-Err-clause-reply
returns-in-Err-clause-reply g c = λ given asked.
    stop_reply c.args.sheet.now c.rows-rows.ensures.standing c.args.query.now (sym c.in_default.ensures) c.in-Err.stop c.in-Err.ensures
    c.answer-in-Err.result c.answer-in-Err.ensures given asked
