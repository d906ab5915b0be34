-- What an item is as a command is never out of memory.
use Rattle.std.proofs.Common.{◌≡◌, ◌≢◌, ℕ, ◌+◌, Bool, true, false, cond, List, [], ◌∷◌, length, Option, Some, None, Ok, Err, refl, subst}
use Rattle.std.specs.Prelude.{bytes_eq, codes}
use Rattle.formula_ast.specs.Names.{is_plain_name, is_name}
use Rattle.line_text.specs.Words.{Word, words_from, written_part}
use Rattle.sheet_rows.specs.Rows.{Row}
use Rattle.row_text.specs.Parts.{Read as ReadRow}
use Rattle.row_text.specs.Reading.{row_at}
use Rattle.sheet_rows.specs.declared.fault.RowFault.{RowFault}
use Rattle.sheet_rows.specs.declared.fault.RowFault.TheVariants.{OutOfMemory as RowMemory}
use Rattle.row_text.specs.Tables.{table_at}
use Rattle.row_text.proofs.NoMemory.{row_never, table_never}
use Rattle.answers.specs.Commands.{Add, Set, Remove, Change, Undo, Redo, Mark, Restore, Ask, AskAt}
use Rattle.answers.specs.declared.command.Query.{Query}
use Rattle.answers.specs.declared.command.Query.TheVariants.{Value, Variance, Covariance, Correlation, Sensitivity, Degrees, Report, Expanded, Decide, Budget, Dump}
use Rattle.answers.specs.declared.fault.LineFault.{LineFault}
use Rattle.answers.specs.declared.fault.LineFault.TheVariants.{Syntax, Row as RowRefused, Level as LevelRefused, LongLine as LineTooLong, LongTable as TableTooLong, UnclosedTable as TableUnclosed, OutOfMemory}
use Rattle.table_g2.specs.declared.known.Level.{Level}
use Rattle.script_lines.specs.declared.verb.QueryWord.{QueryWord}
use Rattle.script_lines.specs.declared.verb.QueryWord.TheVariants.{Value as ValueWord, Variance as VarianceWord, Covariance as CovarianceWord, Correlation as CorrelationWord, Sensitivity as SensitivityWord, Degrees as DegreesWord, Report as ReportWord, Expanded as ExpandedWord, Decide as DecideWord, Budget as BudgetWord, Dump as DumpWord}
use Rattle.script_lines.specs.declared.item.Item.{Item}
use Rattle.script_lines.specs.declared.item.Item.TheVariants.{Line, Block, LongLine, LongTable, UnclosedTable}
use Rattle.script_lines.specs.declared.verb.Verb.{Verb}
use Rattle.script_lines.specs.declared.verb.Verb.TheVariants.{Set as SetVerb, Remove as RemoveVerb, Undo as UndoVerb, Redo as RedoVerb, Mark as MarkVerb, Restore as RestoreVerb, At as AtVerb, Ask as AskVerb, Row as RowVerb}
use Rattle.script_lines.specs.Parts.{Read, mapped, then_read, alone, no_more, any_word, name_word, plain_word, sole_name}
use Rattle.script_lines.specs.Queries.{query_word, one_name, two_names, level_of, level_checked, sole_level, name_and_level, decision_asked, query_with, query_begun, query_of, query_at}
use Rattle.script_lines.specs.Commands.{verb_of, row_of_line, adding, setting, command_with, line_with, line_read, block_with, block_read, command_read}

abbrev IsNoMemory : LineFault → Type 0
IsNoMemory OutOfMemory = ⊥
IsNoMemory (RowRefused fault) = fault ≢ RowMemory
IsNoMemory (Syntax at) = Unit {0}
IsNoMemory LevelRefused = Unit {0}
IsNoMemory LineTooLong = Unit {0}
IsNoMemory TableTooLong = Unit {0}
IsNoMemory TableUnclosed = Unit {0}

abbrev IfFailed : {A : Type 0} → Read A → Type 0
IfFailed (Ok x) = Unit {0}
IfFailed (Err fault) = IsNoMemory fault

mapped_failed : {A B : Type 0} (make : A → B) (r : Read A) → IfFailed r → IfFailed (mapped make r)
mapped_failed make (Ok x) h = tt
mapped_failed make (Err fault) h = h

then_failed : {A B : Type 0} (r : Read A) (next : A → Read B) → IfFailed r → ((x : A) → IfFailed (next x)) → IfFailed (then_read r next)
then_failed (Ok x) next h k = k x
then_failed (Err fault) next h k = h

cond_failed : {A : Type 0} (t : Bool) (a b : Read A) → IfFailed a → IfFailed b → IfFailed (cond t a b)
cond_failed true a b h k = h
cond_failed false a b h k = k

alone_failed : {A : Type 0} (x : A) (ws : List Word) → IfFailed (alone x ws)
alone_failed x [] = tt
alone_failed x (w ∷ ws) = tt

word_failed : (end : ℕ) (ws : List Word) → IfFailed (name_word end ws)
word_failed end [] = tt
word_failed end (w ∷ ws) =
    cond_failed (is_name w.text) (Ok (record { item = w.text; rest = ws })) (Err (Syntax (w.place + 1))) tt tt

plain_failed : (end : ℕ) (ws : List Word) → IfFailed (plain_word end ws)
plain_failed end [] = tt
plain_failed end (w ∷ ws) =
    cond_failed (is_plain_name w.text) (Ok (record { item = w.text; rest = ws })) (Err (Syntax (w.place + 1))) tt tt

name_failed : (end : ℕ) (ws : List Word) → IfFailed (sole_name end ws)
name_failed end ws = then_failed (plain_word end ws) _ (plain_failed end ws) (λ name. alone_failed name.item name.rest)

one_failed : (end : ℕ) (ws : List Word) → IfFailed (one_name end ws)
one_failed end ws = then_failed (name_word end ws) _ (word_failed end ws) (λ name. alone_failed name.item name.rest)

two_failed : (end : ℕ) (ws : List Word) → IfFailed (two_names end ws)
two_failed end ws =
    then_failed (name_word end ws) _ (word_failed end ws) (λ first.
    then_failed (name_word end first.rest) _ (word_failed end first.rest) (λ second. alone_failed (first.item, second.item) second.rest))

any_failed : {A : Type 0} (meaning : List ℕ → A) (end : ℕ) (ws : List Word) → IfFailed (any_word meaning end ws)
any_failed meaning end [] = tt
any_failed meaning end (w ∷ ws) = tt

checked_failed : (said : Option Level) → IfFailed (level_checked said)
checked_failed None = tt
checked_failed (Some level) = tt

level_failed : (end : ℕ) (ws : List Word) → IfFailed (sole_level end ws)
level_failed end ws =
    then_failed (any_word level_of end ws) _ (any_failed level_of end ws) (λ said.
    then_failed (no_more said.rest) _ (alone_failed tt said.rest) (λ done. checked_failed said.item))

name_and_level_failed : (end : ℕ) (ws : List Word) → IfFailed (name_and_level end ws)
name_and_level_failed end ws =
    then_failed (name_word end ws) _ (word_failed end ws) (λ name.
    mapped_failed (λ level. (name.item, level)) (sole_level end name.rest) (level_failed end name.rest))

decision_failed : (end : ℕ) (ws : List Word) → IfFailed (decision_asked end ws)
decision_failed end ws =
    then_failed (name_word end ws) _ (word_failed end ws) (λ name.
    then_failed (plain_word end name.rest) _ (plain_failed end name.rest) (λ rule.
    mapped_failed (λ level. Decide name.item rule.item level) (sole_level end rule.rest) (level_failed end rule.rest)))

query_failed : (asked : QueryWord) (end : ℕ) (ws : List Word) → IfFailed (query_with asked end ws)
query_failed ValueWord end ws = mapped_failed Value (one_name end ws) (one_failed end ws)
query_failed VarianceWord end ws = mapped_failed Variance (one_name end ws) (one_failed end ws)
query_failed CovarianceWord end ws = mapped_failed (λ names. Covariance names.0 names.1) (two_names end ws) (two_failed end ws)
query_failed CorrelationWord end ws = mapped_failed (λ names. Correlation names.0 names.1) (two_names end ws) (two_failed end ws)
query_failed SensitivityWord end ws = mapped_failed (λ names. Sensitivity names.0 names.1) (two_names end ws) (two_failed end ws)
query_failed DegreesWord end ws = mapped_failed Degrees (one_name end ws) (one_failed end ws)
query_failed ReportWord end ws = mapped_failed Report (one_name end ws) (one_failed end ws)
query_failed ExpandedWord end ws = mapped_failed (λ asked. Expanded asked.0 asked.1) (name_and_level end ws) (name_and_level_failed end ws)
query_failed DecideWord end ws = decision_failed end ws
query_failed BudgetWord end ws = mapped_failed Budget (one_name end ws) (one_failed end ws)
query_failed DumpWord end ws = alone_failed Dump ws

begun_failed : (asked : Option QueryWord) (end : ℕ) (w : Word) (ws : List Word) → IfFailed (query_begun asked end w ws)
begun_failed None end w ws = tt
begun_failed (Some asked) end w ws = query_failed asked end ws

query_of_failed : (end : ℕ) (ws : List Word) → IfFailed (query_of end ws)
query_of_failed end [] = tt
query_of_failed end (w ∷ ws) = begun_failed (query_word w.text) end w ws

query_at_failed : (end : ℕ) (ws : List Word) → IfFailed (query_at end ws)
query_at_failed end ws =
    then_failed (plain_word end ws) _ (plain_failed end ws) (λ mark.
    mapped_failed (λ query. (mark.item, query)) (query_of end mark.rest) (query_of_failed end mark.rest))

query_at_told : (r : Read (List ℕ × Query)) → IfFailed r → r ≢ Err OutOfMemory
query_at_told (Ok asked) h e = cc
query_at_told (Err fault) h e = let same : fault ≡ OutOfMemory = cc in subst IsNoMemory same h

-- the reading of a query to a mark's sheet takes no memory
pub query_at_never : (end : ℕ) (ws : List Word) → query_at end ws ≢ Err OutOfMemory
query_at_never end ws = query_at_told (query_at end ws) (query_at_failed end ws)

row_failed : (r : ReadRow Row) → r ≢ Err RowMemory → IfFailed (row_of_line r)
row_failed (Ok row) h = tt
row_failed (Err fault) h = λ e. h (subst (λ (f : RowFault). let r : ReadRow Row = Err f in Err fault ≡ r) e refl)

adding_failed : (r : ReadRow Row) → r ≢ Err RowMemory → IfFailed (adding r)
adding_failed r h = mapped_failed (λ row. Change (Add row)) (row_of_line r) (row_failed r h)

setting_failed : (r : ReadRow Row) → r ≢ Err RowMemory → IfFailed (setting r)
setting_failed r h = mapped_failed (λ row. Change (Set row)) (row_of_line r) (row_failed r h)

command_failed : (verb : Verb) (text : List ℕ) (w : Word) (ws : List Word) → IfFailed (command_with verb text w ws)
command_failed SetVerb text w ws = setting_failed (row_at text ws) (row_never text ws)
command_failed RemoveVerb text w ws = mapped_failed (λ name. Change (Remove name)) (sole_name (length text) ws) (name_failed (length text) ws)
command_failed UndoVerb text w ws = mapped_failed (λ done. Undo) (no_more ws) (alone_failed tt ws)
command_failed RedoVerb text w ws = mapped_failed (λ done. Redo) (no_more ws) (alone_failed tt ws)
command_failed MarkVerb text w ws = mapped_failed Mark (sole_name (length text) ws) (name_failed (length text) ws)
command_failed RestoreVerb text w ws = mapped_failed Restore (sole_name (length text) ws) (name_failed (length text) ws)
command_failed AtVerb text w ws = mapped_failed (λ asked. AskAt asked.0 asked.1) (query_at (length text) ws) (query_at_failed (length text) ws)
command_failed (AskVerb asked) text w ws = mapped_failed Ask (query_with asked (length text) ws) (query_failed asked (length text) ws)
command_failed RowVerb text w ws = adding_failed (row_at text (w ∷ ws)) (row_never text (w ∷ ws))

block_failed : (text : List ℕ) (ws : List Word) (body : List ℕ) → IfFailed (block_with text ws body)
block_failed text [] body = adding_failed (table_at text [] body) (table_never text [] body)
block_failed text (w ∷ ws) body =
    cond_failed (bytes_eq w.text (codes "set")) (setting (table_at text ws body)) (adding (table_at text (w ∷ ws) body))
    (setting_failed (table_at text ws body) (table_never text ws body)) (adding_failed (table_at text (w ∷ ws) body) (table_never text (w ∷ ws) body))

line_failed : (text : List ℕ) (ws : List Word) → IfFailed (line_with text ws)
line_failed text [] = tt
line_failed text (w ∷ ws) = mapped_failed Some (command_with (verb_of w.text) text w ws) (command_failed (verb_of w.text) text w ws)

item_failed : (item : Item) → IfFailed (command_read item)
unfolding line_read block_read
item_failed (Line line) = line_failed (written_part line) (words_from (written_part line) 0)
item_failed (Block head body) =
    mapped_failed Some (block_read head body) (block_failed (written_part head) (words_from (written_part head) 0) body)
item_failed LongLine = tt
item_failed LongTable = tt
item_failed UnclosedTable = tt

pub never_memory : (item : Item) → command_read item ≢ Err OutOfMemory
never_memory item h = subst IfFailed h (item_failed item)

pub never_row_memory : (item : Item) → command_read item ≢ Err (RowRefused RowMemory)
never_row_memory item h = subst IfFailed h (item_failed item) refl
