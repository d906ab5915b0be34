-- What a run does, by how it ends.
use Rattle.std.specs.Prelude.{ℕ, ◌+◌, ◌≤◌, ◌⊎◌, Bool, IsTrue, if◌then◌else◌, List, map, length, Option, Some, None, String, string_bytes}
use Rattle.std.specs.Io.KnownBytes.{IsAtEnd}
use Rattle.std.specs.declared.alloc.Global.{Global}
use Rattle.byte_io.specs.Source.{Took}
use Rattle.byte_io.specs.Sink.{HasRoom, Wrote, WrotePart}
use Rattle.program_words.specs.declared.asked.Asked.{Asked}
use Rattle.program_words.specs.declared.asked.Asked.TheVariants.{Run, Make}
use Rattle.program_words.specs.Words.{asked_of}
use Rattle.script_maker.specs.Scripts.{script}
use Rattle.script_lines.specs.Items.{items_of}
use Rattle.edit_session.specs.Machine.{initial}
use Rattle.gum_cli.specs.Script.{out, early, AreSound}

-- the most bytes of a script
abbrev pub script_limit : ℕ
script_limit = 16777216

-- the length of the pieces that a source is offered
abbrev pub piece_length : ℕ
piece_length = 65536

-- what the words ask for
abbrev pub asked : List (String Global) → Option Asked
asked words = asked_of (map string_bytes words)

-- a bounded sink has room for all replies, which are known where the source tells its bytes
abbrev pub RoomForReplies : Option ℕ → Option (List ℕ) → Type 0
RoomForReplies None left = Unit {0}
RoomForReplies (Some room) None = ⊥
RoomForReplies (Some room) (Some left) = length (out left) ≤ room

-- the same for what the words ask for: the generated script is known
abbrev pub RoomForAsked : Option Asked → Option ℕ → Option (List ℕ) → Type 0
RoomForAsked None room left = Unit {0}
RoomForAsked (Some Run) room left = RoomForReplies room left
RoomForAsked (Some (Make rows start)) room left = HasRoom room (length (script rows start))

-- the replies that are due: to all lines where the end was met, and else to the whole ones
abbrev pub due : Bool → List ℕ → List ℕ
due ended script = if ended then out script else early script

-- no more bytes are left than this, and they are told
abbrev pub HasAtMost : Option (List ℕ) → ℕ → Type 0
HasAtMost None most = ⊥
HasAtMost (Some left) most = length left ≤ most

-- the source has no more bytes than the limit: it tells those that are left, or those taken are counted
abbrev pub IsWithinLimit : ℕ → ℕ → Option (List ℕ) → Type 0
IsWithinLimit count count' left = HasAtMost left script_limit ⊎ (count' ≤ count + script_limit)

-- a run that is done: the source was read to its end, and the replies to what it gave were written, each of them sound
pub record IsDone (count count' : ℕ) (taken taken' left left' : Option (List ℕ)) (ended' : Bool)
    (written written' : Option (List ℕ)) (room room' : Option ℕ) : Type 0 where
  pub script : List ℕ
  pub took : Took count count' taken taken' left left' script
  pub short : length script ≤ script_limit
  pub met_end : IsTrue ended'
  pub none_left : IsAtEnd left'
  pub wrote : Wrote written written' room room' (out script)
  pub sound : AreSound initial (items_of script)

-- a run that was cut off: what was written is a prefix of what was due
pub record IsCutOff (count count' : ℕ) (taken taken' left left' : Option (List ℕ)) (ended' : Bool)
    (written written' : Option (List ℕ)) (room room' : Option ℕ) : Type 0 where
  pub script : List ℕ
  pub took : Took count count' taken taken' left left' script
  pub wrote : WrotePart written written' room room' (due ended' script)
