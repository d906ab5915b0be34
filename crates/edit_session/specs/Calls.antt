-- What the calls of a session answer, as replies of the machine.
use Rattle.std.specs.Prelude.{◌≡◌, Bool, true, false, not, IsTrue, Option, None, Some, Result}
use Rattle.line_text.specs.Memory.{IsReplyTo}
use Rattle.sheet_rows.specs.declared.edit_fault.EditFault.{EditFault}
use Rattle.sheet_rows.specs.declared.edit_fault.EditFault.TheVariants.{OutOfMemory as NoMemoryToEdit}
use Rattle.answers.specs.Commands.{Command, Change, Undo, Redo, Mark as MarkPresent, Restore, Ask as AskPresent, AskAt}
use Rattle.answers.specs.declared.fault.AskFault.{AskFault}
use Rattle.answers.specs.declared.fault.AskFault.TheVariants.{OutOfMemory as NoMemoryToAsk}
use Rattle.answers.specs.declared.fault.HistoryFault.{HistoryFault}
use Rattle.answers.specs.declared.fault.HistoryFault.TheVariants.{OutOfMemory as NoMemoryToStep}
use Rattle.answers.specs.declared.fault.MarkFault.{MarkFault}
use Rattle.answers.specs.declared.fault.MarkFault.TheVariants.{OutOfMemory as NoMemoryToMark}
use Rattle.answers.specs.declared.reply.Answer.{Answer}
use Rattle.answers.specs.declared.reply.Reply.{Reply}
use Rattle.answers.specs.declared.reply.Reply.TheVariants.{Fine, Line, Edit, History, Mark, Ask, Said}
use Rattle.edit_session.specs.Machine.{State, step}

-- ---- the reply to a call; none where it is out of memory
abbrev pub IsEditReply : Result Unit EditFault → Option Reply → Type 0
IsEditReply = IsReplyTo NoMemoryToEdit (λ done. Fine) Edit

abbrev pub IsHistoryReply : Result Unit HistoryFault → Option Reply → Type 0
IsHistoryReply = IsReplyTo NoMemoryToStep (λ done. Fine) History

abbrev pub IsMarkReply : Result Unit MarkFault → Option Reply → Type 0
IsMarkReply = IsReplyTo NoMemoryToMark (λ done. Fine) Mark

abbrev pub IsAskReply : Result Answer AskFault → Option Reply → Type 0
IsAskReply = IsReplyTo NoMemoryToAsk Said Ask

-- ---- out of memory
abbrev pub is_refusal : Reply → Bool
is_refusal Fine = false
is_refusal (Said answer) = false
is_refusal (Line fault) = true
is_refusal (Edit fault) = true
is_refusal (History fault) = true
is_refusal (Mark fault) = true
is_refusal (Ask fault) = true

-- where a call may be out of memory: at an edit always, at a step forward never, and at the others where the
-- command is carried out, not where it is refused
abbrev pub may_be_out_of_memory : State → Command → Bool
may_be_out_of_memory state (Change edit) = true
may_be_out_of_memory state Redo = false
may_be_out_of_memory state Undo = not (is_refusal (step state Undo).1)
may_be_out_of_memory state (MarkPresent name) = not (is_refusal (step state (MarkPresent name)).1)
may_be_out_of_memory state (Restore name) = not (is_refusal (step state (Restore name)).1)
may_be_out_of_memory state (AskPresent query) = not (is_refusal (step state (AskPresent query)).1)
may_be_out_of_memory state (AskAt name query) = not (is_refusal (step state (AskAt name query)).1)

-- ---- the call does the machine's step, or is out of memory where it may be, and leaves the state as it was
abbrev pub Does : State → Command → State → Option Reply → Type 0
Does old command new None = (new ≡ old) × IsTrue (may_be_out_of_memory old command)
Does old command new (Some reply) = step old command ≡ (new, reply)

-- the call gives this reply, or finds no memory for one that is no refusal
abbrev pub RepliesWith : Option Reply → Reply → Type 0
RepliesWith None reply = IsTrue (not (is_refusal reply))
RepliesWith (Some given) reply = given ≡ reply
