-- What the session's calls answer is what `Does` says of them.
use Rattle.std.specs.Prelude.{◌≡◌, ◌≢◌, ℕ, suc, ◌-◌, true, not, IsTrue, List, [], ◌∷◌, length, slice_get, is_some, Option, Some, None, Result, Ok, Err, refl}
use Rattle.std.specs.Result.{IsErrAnd}
use Rattle.std.proofs.Common.{sym, ◌∙◌, ap, subst, arith}
use Rattle.line_text.specs.Memory.{IsReplyTo}
use Rattle.sheet_rows.specs.Rows.{Sheet}
use Rattle.sheet_rows.specs.declared.edit_fault.EditFault.{EditFault}
use Rattle.sheet_rows.specs.declared.edit_fault.EditFault.TheVariants.{OutOfMemory as NoMemoryToEdit}
use Rattle.answers.specs.Commands.{Edit, Change, Undo, Mark, Ask, AskAt}
use Rattle.answers.specs.declared.command.Query.{Query}
use Rattle.answers.specs.declared.fault.AskFault.{AskFault}
use Rattle.answers.specs.declared.fault.AskFault.TheVariants.{OutOfMemory as NoMemoryToAsk}
use Rattle.answers.specs.declared.reply.Answer.{Answer}
use Rattle.answers.specs.declared.reply.Reply.{Reply}
use Rattle.answers.specs.declared.reply.Reply.TheVariants.{Fine, Edit as EditRefused, Ask as AskRefused, Said}
use Rattle.edit_session.specs.Machine.{State, last_of, verdict, edited, undone, may_mark, marked, kept_as, reply_at}
use Rattle.edit_session.specs.Replies.{reply_to}
use Rattle.edit_session.specs.Calls.{IsEditReply, IsAskReply, is_refusal, may_be_out_of_memory, Does, RepliesWith}

-- ---- memory for a step back
last_there : (sheet : Sheet) (sheets : List Sheet) → is_some (slice_get (sheet ∷ sheets) (length sheets)) ≡ true
last_there sheet [] = refl
last_there sheet (next ∷ sheets) = last_there next sheets

has_last : (past : List Sheet) (n : ℕ) → length past ≡ suc n → is_some (last_of past) ≡ true
has_last [] n e = absurd (cc)
has_last (sheet ∷ sheets) n e =
    let at : length (sheet ∷ sheets) - 1 ≡ length sheets = omega arith in
    ap (λ i. is_some (slice_get (sheet ∷ sheets) i)) at ∙ last_there sheet sheets

undone_fine : (state : State) (last : Option Sheet) → is_some last ≡ true → IsTrue (not (is_refusal (undone state last).1))
undone_fine state None e = absurd (cc)
undone_fine state (Some sheet) e = refl

pub undo_may_be_out : (state : State) (n : ℕ) → length state.past ≡ suc n → IsTrue (may_be_out_of_memory state Undo)
undo_may_be_out state n e = undone_fine state (last_of state.past) (has_last state.past n e)

-- ---- memory for a mark
pub mark_may_be_out : (state : State) (name : List ℕ) → may_mark state.marks name ≡ true → IsTrue (may_be_out_of_memory state (Mark name))
mark_may_be_out state name e = subst (λ may. IsTrue (not (is_refusal (marked state name may).1))) (sym e) refl

-- ---- the reply that stands for an answer
pub reply_given : {A E R : Type 0} (memory : E) (given : A → R) (refused : E → R) (P : Option R → Type 0) (x : A)
    → P (Some (given x)) → (reply : Option R) → IsReplyTo memory given refused (Ok x) reply → P reply
reply_given memory given refused P x h None e = absurd (cc)
reply_given memory given refused P x h (Some reply) e = subst (λ r. P (Some r)) (sym e) h

pub reply_refused : {A E R : Type 0} (memory : E) (given : A → R) (refused : E → R) (P : Option R → Type 0) (fault : E)
    → (fault ≡ memory → P None) → (fault ≢ memory → P (Some (refused fault)))
    → (reply : Option R) → IsReplyTo memory given refused (Err fault) reply → P reply
reply_refused memory given refused P fault h k None e = h (cc)
reply_refused memory given refused P fault h k (Some reply) e = subst (λ r. P (Some r)) (sym e.1) (k e.0)

-- ---- edits
pub edit_refused : (state : State) (edit : Edit) (fault : EditFault) → (fault ≢ NoMemoryToEdit → verdict state.present edit ≡ Err fault)
    → (reply : Option Reply) → IsEditReply (Err fault) reply → Does state (Change edit) state reply
edit_refused state edit fault h =
    reply_refused NoMemoryToEdit (λ done. Fine) EditRefused (Does state (Change edit) state) fault (λ e. (refl, refl)) (λ n. ap (edited state) (h n))

-- ---- queries
-- a query that is out of memory gives no reply
pub not_asked : (wanted : Reply) (r : Result Answer AskFault) → IsErrAnd r (λ fault. fault ≡ NoMemoryToAsk) → IsTrue (not (is_refusal wanted))
    → (reply : Option Reply) → IsAskReply r reply → RepliesWith reply wanted
not_asked wanted (Ok answer) h k = absurd h
not_asked wanted (Err fault) h k =
    reply_refused NoMemoryToAsk Said AskRefused (λ reply. RepliesWith reply wanted) fault (λ e. k) (λ n. absurd (n h))

-- an answer gives the reply that says it
pub said : (wanted : Reply) (answer : Answer) → Said answer ≡ wanted → (reply : Option Reply) → IsAskReply (Ok answer) reply → RepliesWith reply wanted
said wanted answer e = reply_given NoMemoryToAsk Said AskRefused (λ reply. RepliesWith reply wanted) answer e

pub ask_does : (state : State) (query : Query) (given : Option Reply) → RepliesWith given (reply_to state.present query) → Does state (Ask query) state given
ask_does state query None h = (refl, h)
ask_does state query (Some reply) h = ap (λ r. (state, r)) (sym h)

pub ask_at_does : (state : State) (name : List ℕ) (query : Query) (given : Option Reply)
    → RepliesWith given (reply_at name (kept_as state.marks name) query) → Does state (AskAt name query) state given
ask_at_does state name query None h = (refl, h)
ask_at_does state name query (Some reply) h = ap (λ r. (state, r)) (sym h)
