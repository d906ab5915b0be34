-- What a script means: its lines, their replies, and the bytes that are written.
use Rattle.std.specs.Prelude.{ℕ, List, [], ◌∷◌, ◌++◌, Option, Some, None, Ok, Err}
use Rattle.answers.specs.Commands.{Command}
use Rattle.answers.specs.declared.reply.Reply.{Reply}
use Rattle.answers.specs.declared.reply.Reply.TheVariants.{Line}
use Rattle.script_lines.specs.declared.item.Item.{Item}
use Rattle.script_lines.specs.Items.{items_of, whole_items_of}
use Rattle.script_lines.specs.Parts.{Read}
use Rattle.script_lines.specs.Commands.{command_read}
use Rattle.script_lines.specs.Texts.{text_of_reply}
use Rattle.edit_session.specs.Machine.{State, initial, step}
use Rattle.edit_session.specs.Sound.{asked, IsSoundOn}

-- ---- the replies to lines, in order; a line without words has none
abbrev pub replies_of : State → Read (Option Command) → List Reply
replies_of state (Err fault) = Line fault ∷ []
replies_of state (Ok None) = []
replies_of state (Ok (Some command)) = (step state command).1 ∷ []

abbrev pub state_after_line : State → Read (Option Command) → State
state_after_line state (Err fault) = state
state_after_line state (Ok None) = state
state_after_line state (Ok (Some command)) = (step state command).0

abbrev pub replies_to : State → List Item → List Reply
replies_to state [] = []
replies_to state (item ∷ items) = replies_of state (command_read item) ++ replies_to (state_after_line state (command_read item)) items

abbrev pub text_of_replies : List Reply → List ℕ
text_of_replies [] = []
text_of_replies (reply ∷ replies) = text_of_reply reply ++ text_of_replies replies

-- what is written for a script that was read to its end
abbrev pub out : List ℕ → List ℕ
out script = text_of_replies (replies_to initial (items_of script))

-- what is due for a script of which more may come: the replies to its whole lines
abbrev pub early : List ℕ → List ℕ
early script = text_of_replies (replies_to initial (whole_items_of script))

-- ---- soundness
-- the reply to a command is sound for the sheet that it asks
abbrev pub IsSoundLine : State → Read (Option Command) → Type 0
IsSoundLine state (Err fault) = Unit {0}
IsSoundLine state (Ok None) = Unit {0}
IsSoundLine state (Ok (Some command)) = IsSoundOn (asked state command) (step state command).1

-- each reply is sound for the state that stands at its line
abbrev pub AreSound : State → List Item → Type 0
AreSound state [] = Unit {0}
AreSound state (item ∷ items) = IsSoundLine state (command_read item) × AreSound (state_after_line state (command_read item)) items
