-- Where the code stops before it has what the law of propagation needs, each answer that needs it stops.
use Rattle.std.specs.Prelude.{◌≡◌, ℕ, List, Option, None, Result, Ok, Err, IfErr, refl}
use Rattle.std.specs.Result.{IsErrAnd}
use Rattle.std.proofs.Common.{sym, subst, ap₂}
use Rattle.fixed_interval.specs.Interval.{Interval}
use Rattle.covariance.specs.Gradients.{Spans}
use Rattle.sheet_rows.specs.Rows.{Sheet}
use Rattle.sheet_rows.specs.Sheets.{IsStanding}
use Rattle.answers.specs.declared.command.Query.{Query}
use Rattle.answers.specs.declared.fault.AskFault.{AskFault}
use Rattle.answers.specs.declared.fault.AskFault.TheVariants.{OutOfMemory as NoMemoryToAsk}
use Rattle.answers.specs.declared.reply.Answer.{Answer}
use Rattle.answers.specs.declared.reply.Answer.TheVariants.{ValueFault, LawOverflow}
use Rattle.answers.specs.declared.reply.Reply.{Reply}
use Rattle.edit_session.specs.Replies.{and_then, value_in, gradient_in, answer_in, unknown_result, reply_by, reply_to}
use Rattle.edit_session.specs.Calls.{IsAskReply, RepliesWith}
use Rattle.edit_session.specs.Asking.{StopsAt, StopsTwo, answer_of_stop}
use Rattle.edit_session.specs.declared.stop.Stop.{Stop as CodeStop}
use Rattle.edit_session.specs.declared.stop.Stop.TheVariants.{Value as CodeFault, Law as CodeOverflow, OutOfMemory as NoMemory}
use Rattle.edit_session.proofs.Calls.{said, not_asked}
use Rattle.edit_session.proofs.Found.{stops_then, stops_on}
use Rattle.edit_session.proofs.ReplyLaws.{fine_reply}

-- at the sensitivities of the second quantity
pub stops_second : (sheet : Sheet) (y z : List ℕ) (v w : Interval) (dy : Spans (List ℕ)) → value_in sheet y ≡ Ok v → value_in sheet z ≡ Ok w
    → gradient_in sheet y ≡ Ok dy → (stop : CodeStop) → StopsAt stop (and_then (value_in sheet z) (λ value. gradient_in sheet z)) → StopsTwo sheet y z stop
stops_second sheet y z v w dy e f g stop h = λ answer.
    stops_on stop (value_in sheet y) v _ e
    (stops_on stop (value_in sheet z) w _ f
    (stops_on stop (gradient_in sheet y) dy _ g
    (stops_then stop (gradient_in sheet z) (λ dz. answer dy dz) (subst (λ r. StopsAt stop (and_then r (λ value. gradient_in sheet z))) f h))))

-- the error that `?` hands on
pub err_of : {T E : Type 0} (r : Result T E) (x : E) (P : E → Type 0) → IsErrAnd r (λ e. e ≡ x) → P x → IfErr r P
err_of (Ok t) x P h p = tt
err_of (Err e) x P h p = subst P (sym h) p

-- what is answered where the code stops gives the reply of the sheet
pub stop_reply : (sheet : Sheet) → IsStanding sheet → (query : Query) → unknown_result sheet query ≡ None → (stop : CodeStop) → StopsAt stop (answer_in sheet query)
    → (r : Result Answer AskFault) → r ≡ answer_of_stop stop → (given : Option Reply) → IsAskReply r given → RepliesWith given (reply_to sheet query)
stop_reply sheet h query e (CodeFault fault row) k r is given asked =
    said (reply_to sheet query) (ValueFault fault row) (sym (ap₂ reply_by e k)) given (subst (λ r. IsAskReply r given) is asked)
stop_reply sheet h query e CodeOverflow k r is given asked =
    said (reply_to sheet query) LawOverflow (sym (ap₂ reply_by e k)) given (subst (λ r. IsAskReply r given) is asked)
stop_reply sheet h query e NoMemory k r is given asked =
    not_asked (reply_to sheet query) (Err NoMemoryToAsk) refl (fine_reply sheet h query e) given (subst (λ r. IsAskReply r given) is asked)
