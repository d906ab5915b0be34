-- What lines add or set are regular rows.
use Rattle.std.specs.Prelude.{ℕ, Bool, true, false, cond, bytes_eq, codes, List, [], ◌∷◌, length, Some, Ok, Err, IfOk, IfSome}
use Rattle.line_text.specs.Words.{Word, words_from, written_part}
use Rattle.sheet_rows.specs.Rows.{Row}
use Rattle.sheet_rows.specs.Regular.{IsRegular}
use Rattle.row_text.specs.Parts.{Read as ReadRow}
use Rattle.row_text.specs.Reading.{row_at}
use Rattle.row_text.specs.Tables.{table_at}
use Rattle.row_text.proofs.RegularRows.{row_regular, table_regular, any_ok}
use Rattle.answers.specs.Commands.{Command, IsRegularCommand, Add, Set, Remove, Change, Undo, Redo, Mark, Restore, Ask, AskAt}
use Rattle.script_lines.specs.declared.item.Item.{Item}
use Rattle.script_lines.specs.declared.item.Item.TheVariants.{Line, Block, LongLine, LongTable, UnclosedTable}
use Rattle.script_lines.specs.declared.verb.Verb.{Verb}
use Rattle.script_lines.specs.declared.verb.Verb.TheVariants.{Set as SetVerb, Remove as RemoveVerb, Undo as UndoVerb, Redo as RedoVerb, Mark as MarkVerb, Restore as RestoreVerb, At as AtVerb, Ask as AskVerb, Row as RowVerb}
use Rattle.script_lines.specs.Parts.{Read, mapped, no_more, sole_name}
use Rattle.script_lines.specs.Queries.{query_with, query_at}
use Rattle.script_lines.specs.Commands.{verb_of, row_of_line, adding, setting, command_with, line_with, line_read, block_with, block_read, command_read}

mapped_holds : {A B : Type 0} (r : Read A) (make : A → B) (P : A → Type 0) (Q : B → Type 0) → IfOk r P → ((x : A) → P x → Q (make x)) → IfOk (mapped make r) Q
mapped_holds (Ok x) make P Q h k = k x h
mapped_holds (Err fault) make P Q h k = tt

row_holds : (r : ReadRow Row) → IfOk r IsRegular → IfOk (row_of_line r) IsRegular
row_holds (Ok row) h = h
row_holds (Err fault) h = tt

adding_regular : (r : ReadRow Row) → IfOk r IsRegular → IfOk (adding r) IsRegularCommand
adding_regular r h = mapped_holds (row_of_line r) (λ row. Change (Add row)) IsRegular IsRegularCommand (row_holds r h) (λ row k. k)

setting_regular : (r : ReadRow Row) → IfOk r IsRegular → IfOk (setting r) IsRegularCommand
setting_regular r h = mapped_holds (row_of_line r) (λ row. Change (Set row)) IsRegular IsRegularCommand (row_holds r h) (λ row k. k)

command_regular : (verb : Verb) (text : List ℕ) (w : Word) (ws : List Word) → IfOk (command_with verb text w ws) IsRegularCommand
command_regular SetVerb text w ws = setting_regular (row_at text ws) (row_regular text ws)
command_regular RemoveVerb text w ws = mapped_holds (sole_name (length text) ws) (λ name. Change (Remove name)) (λ x. Unit {0}) IsRegularCommand (any_ok _) (λ x h. h)
command_regular UndoVerb text w ws = mapped_holds (no_more ws) (λ done. Undo) (λ x. Unit {0}) IsRegularCommand (any_ok _) (λ x h. h)
command_regular RedoVerb text w ws = mapped_holds (no_more ws) (λ done. Redo) (λ x. Unit {0}) IsRegularCommand (any_ok _) (λ x h. h)
command_regular MarkVerb text w ws = mapped_holds (sole_name (length text) ws) Mark (λ x. Unit {0}) IsRegularCommand (any_ok _) (λ x h. h)
command_regular RestoreVerb text w ws = mapped_holds (sole_name (length text) ws) Restore (λ x. Unit {0}) IsRegularCommand (any_ok _) (λ x h. h)
command_regular AtVerb text w ws = mapped_holds (query_at (length text) ws) (λ asked. AskAt asked.0 asked.1) (λ x. Unit {0}) IsRegularCommand (any_ok _) (λ x h. h)
command_regular (AskVerb asked) text w ws = mapped_holds (query_with asked (length text) ws) Ask (λ x. Unit {0}) IsRegularCommand (any_ok _) (λ x h. h)
command_regular RowVerb text w ws = adding_regular (row_at text (w ∷ ws)) (row_regular text (w ∷ ws))

line_regular : (text : List ℕ) (ws : List Word) → IfOk (line_with text ws) (λ read. IfSome read IsRegularCommand)
line_regular text [] = tt
line_regular text (w ∷ ws) =
    mapped_holds (command_with (verb_of w.text) text w ws) Some IsRegularCommand (λ read. IfSome read IsRegularCommand)
    (command_regular (verb_of w.text) text w ws) (λ x h. h)

one_regular : (t : Bool) (a b : Read Command) → IfOk a IsRegularCommand → IfOk b IsRegularCommand → IfOk (cond t a b) IsRegularCommand
one_regular true a b h k = h
one_regular false a b h k = k

block_regular : (text : List ℕ) (ws : List Word) (body : List ℕ) → IfOk (block_with text ws body) IsRegularCommand
block_regular text [] body = adding_regular (table_at text [] body) (table_regular text [] body)
block_regular text (w ∷ ws) body =
    one_regular (bytes_eq w.text (codes "set")) (setting (table_at text ws body)) (adding (table_at text (w ∷ ws) body))
    (setting_regular (table_at text ws body) (table_regular text ws body)) (adding_regular (table_at text (w ∷ ws) body) (table_regular text (w ∷ ws) body))

pub read_regular : (item : Item) → IfOk (command_read item) (λ read. IfSome read IsRegularCommand)
unfolding line_read block_read
read_regular (Line line) = line_regular (written_part line) (words_from (written_part line) 0)
read_regular (Block head body) =
    mapped_holds (block_read head body) Some IsRegularCommand (λ read. IfSome read IsRegularCommand)
    (block_regular (written_part head) (words_from (written_part head) 0) body) (λ x h. h)
read_regular LongLine = tt
read_regular LongTable = tt
read_regular UnclosedTable = tt
