-- What a line, or a block with the line that opens it, is as a command.
use Rattle.std.specs.Prelude.{ℕ, Bool, false, if◌then◌else◌, List, [], ◌∷◌, length, Option, Some, None, Ok, Err, bytes_eq, codes}
use Rattle.line_text.specs.Words.{Word, words_from, written_part}
use Rattle.sheet_rows.specs.Rows.{Row}
use Rattle.row_text.specs.Parts.{Read as ReadRow}
use Rattle.row_text.specs.Reading.{take_memory, row_at}
use Rattle.row_text.specs.Tables.{table_at, is_head}
use Rattle.answers.specs.Commands.{Command, Add, Set, Remove, Change, Undo, Redo, Mark, Restore, Ask, AskAt}
use Rattle.answers.specs.declared.fault.LineFault.TheVariants.{Row as RowRefused, LongLine as LineTooLong, LongTable as TableTooLong, UnclosedTable as TableUnclosed}
use Rattle.script_lines.specs.declared.item.Item.{Item}
use Rattle.script_lines.specs.declared.item.Item.TheVariants.{Line, Block, LongLine, LongTable, UnclosedTable}
use Rattle.script_lines.specs.Parts.{Read, mapped, no_more, sole_name}
use Rattle.script_lines.specs.Queries.{query_word, query_with, query_at}
use Rattle.script_lines.specs.declared.verb.QueryWord.{QueryWord}
use Rattle.script_lines.specs.declared.verb.Verb.{Verb}
use Rattle.script_lines.specs.declared.verb.Verb.TheVariants.{Set as SetVerb, Remove as RemoveVerb, Undo as UndoVerb, Redo as RedoVerb, Mark as MarkVerb, Restore as RestoreVerb, At as AtVerb, Ask as AskVerb, Row as RowVerb}

-- ---- commands
-- what begins no other command is to begin a row
abbrev pub asking : Option QueryWord → Verb
asking (Some asked) = AskVerb asked
asking None = RowVerb

abbrev pub verb_of : List ℕ → Verb
verb_of text =
    if bytes_eq text (codes "set") then SetVerb else
    if bytes_eq text (codes "remove") then RemoveVerb else
    if bytes_eq text (codes "undo") then UndoVerb else
    if bytes_eq text (codes "redo") then RedoVerb else
    if bytes_eq text (codes "mark") then MarkVerb else
    if bytes_eq text (codes "restore") then RestoreVerb else
    if bytes_eq text (codes "at") then AtVerb else
    asking (query_word text)

-- the row that a line gives
abbrev pub row_of_line : ReadRow Row → Read Row
row_of_line (Ok row) = Ok row
row_of_line (Err fault) = Err (RowRefused fault)

-- the command that adds the row that was read, and that which sets it
abbrev pub adding : ReadRow Row → Read Command
adding r = mapped (λ row. Change (Add row)) (row_of_line r)

abbrev pub setting : ReadRow Row → Read Command
setting r = mapped (λ row. Change (Set row)) (row_of_line r)

-- the command of a line whose first word is `w` and whose others are `ws`. `text` is the line without its comment
-- and its last blanks
abbrev pub command_with : Verb → List ℕ → Word → List Word → Read Command
command_with SetVerb text w ws = setting (row_at text ws)
command_with RemoveVerb text w ws = mapped (λ name. Change (Remove name)) (sole_name (length text) ws)
command_with UndoVerb text w ws = mapped (λ done. Undo) (no_more ws)
command_with RedoVerb text w ws = mapped (λ done. Redo) (no_more ws)
command_with MarkVerb text w ws = mapped Mark (sole_name (length text) ws)
command_with RestoreVerb text w ws = mapped Restore (sole_name (length text) ws)
command_with AtVerb text w ws = mapped (λ asked. AskAt asked.0 asked.1) (query_at (length text) ws)
command_with (AskVerb asked) text w ws = mapped Ask (query_with asked (length text) ws)
command_with RowVerb text w ws = adding (row_at text (w ∷ ws))

-- a line without words is no command
abbrev pub line_with : List ℕ → List Word → Read (Option Command)
line_with text [] = Ok None
line_with text (w ∷ ws) = mapped Some (command_with (verb_of w.text) text w ws)

-- the command that the line is, if any
unfoldable pub line_read : List ℕ → Read (Option Command)
line_read line = line_with (written_part line) (words_from (written_part line) 0)

-- the command of a block, by the words of the line that opens it: `set` before `table` sets the row
abbrev pub block_with : List ℕ → List Word → List ℕ → Read Command
block_with text [] body = adding (table_at text [] body)
block_with text (w ∷ ws) body =
    if bytes_eq w.text (codes "set") then setting (table_at text ws body) else adding (table_at text (w ∷ ws) body)

-- the command that the block is which the line `head` opens and of which `body` has the lines
unfoldable pub block_read : List ℕ → List ℕ → Read Command
block_read head body = block_with (written_part head) (words_from (written_part head) 0) body

abbrev pub command_read : Item → Read (Option Command)
command_read (Line line) = line_read line
command_read (Block head body) = mapped Some (block_read head body)
command_read LongLine = Err LineTooLong
command_read LongTable = Err TableTooLong
command_read UnclosedTable = Err TableUnclosed

-- ---- whether the reading takes memory: a line is to give a row of readings or a formula, and that of a block is right
abbrev pub takes_memory_with : Verb → Word → List Word → Bool
takes_memory_with SetVerb w ws = take_memory ws
takes_memory_with RemoveVerb w ws = false
takes_memory_with UndoVerb w ws = false
takes_memory_with RedoVerb w ws = false
takes_memory_with MarkVerb w ws = false
takes_memory_with RestoreVerb w ws = false
takes_memory_with AtVerb w ws = false
takes_memory_with (AskVerb asked) w ws = false
takes_memory_with RowVerb w ws = take_memory (w ∷ ws)

abbrev pub words_take_memory : List Word → Bool
words_take_memory [] = false
words_take_memory (w ∷ ws) = takes_memory_with (verb_of w.text) w ws

abbrev pub block_takes_memory : List Word → Bool
block_takes_memory [] = false
block_takes_memory (w ∷ ws) = if bytes_eq w.text (codes "set") then is_head ws else is_head (w ∷ ws)

abbrev pub takes_memory : Item → Bool
takes_memory (Line line) = words_take_memory (words_from (written_part line) 0)
takes_memory (Block head body) = block_takes_memory (words_from (written_part head) 0)
takes_memory LongLine = false
takes_memory LongTable = false
takes_memory UnclosedTable = false
