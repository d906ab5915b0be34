-- Each reply to a script is sound for the sheet that is asked at its line: by the laws of sessions, and since the
-- rows of commands that are read are regular.
use Rattle.std.specs.Prelude.{List, [], ◌∷◌, Option, Some, None, Ok, Err, IfOk, IfSome}
use Rattle.answers.specs.Commands.{Command, IsRegularCommand}
use Rattle.script_lines.specs.declared.item.Item.{Item}
use Rattle.script_lines.specs.Parts.{Read}
use Rattle.script_lines.specs.Commands.{command_read}
use Rattle.edit_session.specs.Machine.{State, step}
use Rattle.edit_session.specs.Sound.{asked, IsSoundOn}
use Rattle.edit_session.specs.Standing.{IsStandingState}
use Rattle.gum_cli.specs.Script.{state_after_line, IsSoundLine, AreSound}

-- the rows of a command that was read are regular
abbrev IsRegularLine : Read (Option Command) → Type 0
IsRegularLine r = IfOk r (λ read. IfSome read IsRegularCommand)

-- every command's reply is sound
abbrev pub Reply : Type 0
Reply = (state : State) → IsStandingState state → (command : Command) → IsSoundOn (asked state command) (step state command).1

-- the sheets keep standing
abbrev pub Keep : Type 0
Keep = (state : State) (command : Command) → IsStandingState state → IsRegularCommand command → IsStandingState (step state command).0

-- what is read is regular
abbrev pub Regular : Type 0
Regular = (item : Item) → IsRegularLine (command_read item)

line_sound : Reply → (state : State) → IsStandingState state → (r : Read (Option Command)) → IsSoundLine state r
line_sound reply state h (Err fault) = tt
line_sound reply state h (Ok None) = tt
line_sound reply state h (Ok (Some command)) = reply state h command

after_line : Keep → (state : State) → IsStandingState state → (r : Read (Option Command)) → IsRegularLine r → IsStandingState (state_after_line state r)
after_line keep state h (Err fault) k = h
after_line keep state h (Ok None) k = h
after_line keep state h (Ok (Some command)) k = keep state command h k

pub sound_from : Reply → Keep → Regular → (items : List Item) (state : State) → IsStandingState state → AreSound state items
sound_from reply keep regular [] state h = tt
sound_from reply keep regular (item ∷ items) state h = (
  line_sound reply state h (command_read item),
  sound_from reply keep regular items (state_after_line state (command_read item)) (after_line keep state h (command_read item) (regular item)),
)
