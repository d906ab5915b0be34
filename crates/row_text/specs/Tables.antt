-- What a table is as inputs by joint readings (JCGM 100:2008, 5.2.3): the line that opens it, which is `table` and the name
-- of the row, and the text of its block, whose records are those of the crate table_records. The line is looked at first,
-- then the records, and then whether the readings below the header are taken. This order is our rule.
use Rattle.std.specs.Prelude.{ℕ, ◌+◌, ◌&&◌, Bool, false, if◌then◌else◌, List, [], ◌∷◌, length, Result, Ok, Err, bytes_eq, codes}
use Rattle.formula_ast.specs.Names.{is_plain_name}
use Rattle.line_text.specs.Words.{Word, words_from, written_part}
use Rattle.type_a.specs.Tables.{Table, readings_of}
use Rattle.type_a.specs.declared.readings.ReadingsFault.{ReadingsFault}
use Rattle.type_a.specs.declared.readings.ReadingsFault.TheVariants.{TooFew as FewReadings, TooMany as ManyReadings, Shape as OtherWidth, Wide as WideReading, OutOfMemory as ReadingsMemory}
use Rattle.table_records.specs.Tables.{Table as Records, records_read}
use Rattle.table_records.specs.declared.fault.RecordsFault.{RecordsFault}
use Rattle.sheet_rows.specs.Rows.{Row, Joint}
use Rattle.sheet_rows.specs.Faults.{records_fault}
use Rattle.sheet_rows.specs.declared.fault.RowFault.{RowFault}
use Rattle.sheet_rows.specs.declared.fault.RowFault.TheVariants.{Syntax, TooFew, TooMany, Shape, Wide, OutOfMemory}
use Rattle.row_text.specs.Parts.{Read, then_read, plain_word, ended}

-- ---- the line
-- a plain name, and no word more
abbrev pub sole_name : ℕ → List Word → Read (List ℕ)
sole_name end ws =
    then_read (plain_word end ws) (λ name.
    then_read (ended name.rest) (λ done. Ok name.item))

-- `table NAME`
abbrev pub head_name : ℕ → List Word → Read (List ℕ)
head_name end [] = Err (Syntax (end + 1))
head_name end (w ∷ ws) = if bytes_eq w.text (codes "table") then sole_name end ws else Err (Syntax (w.place + 1))

-- ---- the block
-- the names of the columns and the rows of numbers, where the text has them
abbrev pub records_taken : Result Records RecordsFault → Read Records
records_taken (Ok records) = Ok records
records_taken (Err fault) = Err (records_fault fault)

-- a refusal of the records below the header, where the header is record 1
abbrev pub below_header : ReadingsFault → RowFault
below_header FewReadings = TooFew
below_header ManyReadings = TooMany
below_header (OtherWidth k) = Shape (k + 1)
below_header (WideReading k) = Wide (k + 1)
below_header ReadingsMemory = OutOfMemory

-- the table of the records below the header, where it is taken
abbrev pub below_taken : Result Table ReadingsFault → Read Table
below_taken (Ok table) = Ok table
below_taken (Err fault) = Err (below_header fault)

-- the row of this name that the text of a block gives
abbrev pub joint_of : List ℕ → List ℕ → Read Row
joint_of name block =
    then_read (records_taken (records_read block)) (λ records.
    then_read (below_taken (readings_of records.rows)) (λ table. Ok (Joint name records.columns table)))

-- ---- rows
-- the row that these words of the line and the block below it give
abbrev pub table_at : List ℕ → List Word → List ℕ → Read Row
table_at line ws block = then_read (head_name (length line) ws) (λ name. joint_of name block)

-- the row that the line gives from the byte `from` on, with the block below it
unfoldable pub table_read : List ℕ → ℕ → List ℕ → Read Row
table_read line from block = table_at (written_part line) (words_from (written_part line) from) block

-- whether the line is right: only then is the block read, which takes memory
abbrev pub is_head : List Word → Bool
is_head [] = false
is_head (w ∷ []) = false
is_head (w ∷ name ∷ []) = bytes_eq w.text (codes "table") && is_plain_name name.text
is_head (w ∷ name ∷ other ∷ ws) = false
