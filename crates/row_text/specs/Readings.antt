-- What the words after `readings` are as an input by its readings (JCGM 100:2008, 4.2.1): its name, then numbers to the
-- end of the line. Only when all words are read is it looked at whether the readings are taken.
use Rattle.std.specs.Prelude.{ℕ, List, [], ◌∷◌, Result, Ok, Err}
use Rattle.decimal18.specs.Bound.{Bound}
use Rattle.decimal18.specs.Literal.{parsed}
use Rattle.line_text.specs.Words.{Word}
use Rattle.type_a.specs.Tables.{Table, readings_of}
use Rattle.type_a.specs.Tables.{single}
use Rattle.type_a.specs.declared.readings.ReadingsFault.{ReadingsFault}
use Rattle.sheet_rows.specs.Rows.{Row, Readings}
use Rattle.sheet_rows.specs.Faults.{readings_fault}
use Rattle.row_text.specs.Parts.{Read, then_read, plain_word, number_of}

-- the numbers that the words are
abbrev pub numbers_of : List Word → Read (List Bound)
numbers_of [] = Ok []
numbers_of (w ∷ ws) =
    then_read (number_of w (parsed w.text)) (λ number.
    then_read (numbers_of ws) (λ numbers. Ok (number ∷ numbers)))

-- the table, where it is taken
abbrev pub table_taken : Result Table ReadingsFault → Read Table
table_taken (Ok table) = Ok table
table_taken (Err fault) = Err (readings_fault fault)

-- `NAME NUMBER NUMBER ..`, a table of records of one reading each
abbrev pub readings_of_words : ℕ → List Word → Read Row
readings_of_words end ws =
    then_read (plain_word end ws) (λ name.
    then_read (numbers_of name.rest) (λ numbers.
    then_read (table_taken (readings_of (single numbers))) (λ table. Ok (Readings name.item table))))
