-- The session as a machine on whole sheets: a present sheet, the sheets to which undo and redo lead, and
-- those that are kept under names.
use Rattle.std.specs.Prelude.{ℕ, Bool, true, false, ◌-◌, ◌||◌, nat_lt, is_some, if◌then◌else◌, List, [], ◌∷◌, ◌++◌, length, take, drop, slice_get, Option, None, Some, Ok, Err, bytes_eq}
use Rattle.std.specs.Map.{lookup}
use Rattle.sheet_rows.specs.Rows.{Sheet, empty_sheet}
use Rattle.sheet_edits.specs.Verdicts.{Verdict, verdict_add, verdict_set, verdict_remove}
use Rattle.answers.specs.declared.command.Query.{Query}
use Rattle.answers.specs.Commands.{Edit, Add, Set, Remove, Command, Change, Undo, Redo, Mark, Restore, Ask, AskAt}
use Rattle.answers.specs.declared.fault.AskFault.TheVariants.{NoMark as NothingAsked}
use Rattle.answers.specs.declared.fault.HistoryFault.TheVariants.{NothingToUndo, NothingToRedo}
use Rattle.answers.specs.declared.fault.MarkFault.TheVariants.{MarksFull, NoMark}
use Rattle.answers.specs.declared.reply.Reply.{Reply}
use Rattle.answers.specs.declared.reply.Reply.TheVariants.{Fine, Edit as EditRefused, History as HistoryRefused, Mark as MarkRefused, Ask as AskRefused}
use Rattle.edit_session.specs.Replies.{reply_to}

-- ---- states
-- sheets by the names under which they are kept
abbrev pub Marks : Type 0
Marks = List (List ℕ × Sheet)

pub record State : Type 0 where
  pub present : Sheet
  -- where undo leads, the next one last
  pub past : List Sheet
  -- where redo leads, the next one first
  pub future : List Sheet
  pub marks : Marks

abbrev pub initial : State
initial = record { present = empty_sheet; past = []; future = []; marks = [] }

-- a state, and the reply that came with it
abbrev pub Step : Type 0
Step = State × Reply

-- ---- the past
abbrev pub past_limit : ℕ
past_limit = 256

-- the past with one sheet more, without the oldest beyond the limit
abbrev pub past_with : List Sheet → Sheet → List Sheet
past_with past sheet = drop (length (past ++ sheet ∷ []) - past_limit) (past ++ sheet ∷ [])

abbrev pub last_of : List Sheet → Option Sheet
last_of past = slice_get past (length past - 1)

abbrev pub before_last : List Sheet → List Sheet
before_last past = take (length past - 1) past

-- ---- edits
-- the sheet after an accepted edit is the present one, and the one before it the last of the past
abbrev pub accepted : State → Sheet → State
accepted state sheet = record { present = sheet; past = past_with state.past state.present; future = []; marks = state.marks }

abbrev pub verdict : Sheet → Edit → Verdict
verdict sheet (Add row) = verdict_add sheet row
verdict sheet (Set row) = verdict_set sheet row
verdict sheet (Remove name) = verdict_remove sheet name

abbrev pub edited : State → Verdict → Step
edited state (Ok sheet) = (accepted state sheet, Fine)
edited state (Err fault) = (state, EditRefused fault)

-- ---- undo and redo
abbrev pub undone : State → Option Sheet → Step
undone state None = (state, HistoryRefused NothingToUndo)
undone state (Some sheet) =
    (record { present = sheet; past = before_last state.past; future = state.present ∷ state.future; marks = state.marks }, Fine)

abbrev pub redone : State → List Sheet → Step
redone state [] = (state, HistoryRefused NothingToRedo)
redone state (sheet ∷ future) =
    (record { present = sheet; past = past_with state.past state.present; future = future; marks = state.marks }, Fine)

-- ---- marks
abbrev pub mark_limit : ℕ
mark_limit = 16

abbrev pub kept_as : Marks → List ℕ → Option Sheet
kept_as marks name = lookup (bytes_eq name) marks

-- the sheet is kept under the name, in the place of the one that was
abbrev pub with_mark : Marks → List ℕ → Sheet → Marks
with_mark [] name sheet = (name, sheet) ∷ []
with_mark (mark ∷ marks) name sheet = if bytes_eq name mark.0 then (mark.0, sheet) ∷ marks else mark ∷ with_mark marks name sheet

abbrev pub marked : State → List ℕ → Bool → Step
marked state name false = (state, MarkRefused MarksFull)
marked state name true =
    (record { present = state.present; past = state.past; future = state.future; marks = with_mark state.marks name state.present }, Fine)

-- the name is there already, or there is room for a new one
abbrev pub may_mark : Marks → List ℕ → Bool
may_mark marks name = is_some (kept_as marks name) || nat_lt (length marks) mark_limit

abbrev pub restored : State → List ℕ → Option Sheet → Step
restored state name None = (state, MarkRefused (NoMark name))
restored state name (Some sheet) = (accepted state sheet, Fine)

-- ---- queries
-- the reply to a query of the sheet that is kept under the name
abbrev pub reply_at : List ℕ → Option Sheet → Query → Reply
reply_at name None query = AskRefused (NothingAsked name)
reply_at name (Some sheet) query = reply_to sheet query

-- ---- commands
-- the state after a command, and the reply to it
abbrev pub step : State → Command → Step
step state (Change edit) = edited state (verdict state.present edit)
step state Undo = undone state (last_of state.past)
step state Redo = redone state state.future
step state (Mark name) = marked state name (may_mark state.marks name)
step state (Restore name) = restored state name (kept_as state.marks name)
step state (Ask query) = (state, reply_to state.present query)
step state (AskAt name query) = (state, reply_at name (kept_as state.marks name) query)
