-- The table that the text of a table block is: the names of the columns and, for each record below them, a row of
-- numbers. What breaks a rule first decides; a record's place counts from 1, the header included. These rules are this
-- project's own.
use Rattle.std.specs.Prelude.{◌≡◌, true, ℕ, ◌+◌, ◌==◌, if◌then◌else◌, List, [], ◌∷◌, length, map, Result, Ok, Err}
use Rattle.std.specs.List.{list_all}
use Rattle.std.specs.Global.{Vec}
use Rattle.decimal18.specs.Bound.{Bound}
use Rattle.decimal18.specs.Literal.{parsed}
use Rattle.decimal18.specs.declared.literal.NumFault.{NumFault}
use Rattle.decimal18.specs.declared.literal.NumFault.TheVariants.{NotNumber as NoLiteral, NumberRange as NoBound}
use Rattle.table_records.specs.Records.{Record, records_of, trimmed}
use Rattle.table_records.specs.Header.{is_header}
use Rattle.table_records.specs.declared.fault.RecordsFault.{RecordsFault}
use Rattle.table_records.specs.declared.fault.RecordsFault.TheVariants.{TooFew, Shape, NotNumber, NumberRange}
use Rattle.table_records.specs.declared.records.Records.{Records}

-- the names of the columns, and rows with a number for each column
pub record Table : Type 0 where
  pub columns : List (List ℕ)
  pub rows : List (List Bound)

-- the rows that the code's are
abbrev pub rows_in : List (Vec Bound) → List (List Bound)
rows_in rows = map (λ row. row.items) rows

-- the table that the code's records are
abbrev pub table_of : Records → Table
table_of r = record { columns = r.columns; rows = rows_in r.rows.items }

abbrev pub Read : Type 0 → Type 0
Read A = Result A RecordsFault

abbrev pub then_read : {A B : Type 0} → Read A → (A → Read B) → Read B
then_read (Err fault) next = Err fault
then_read (Ok x) next = next x

-- ---- a row
-- what a field of the record at the place `k` is read as
abbrev pub number_in : ℕ → Result Bound NumFault → Read Bound
number_in k (Ok b) = Ok b
number_in k (Err NoLiteral) = Err (NotNumber k)
number_in k (Err NoBound) = Err (NumberRange k)

-- the numbers of the record at the place `k`
abbrev pub numbers_of : ℕ → Record → Read (List Bound)
numbers_of k [] = Ok []
numbers_of k (field ∷ fields) =
    then_read (number_in k (parsed (trimmed field))) (λ b.
    then_read (numbers_of k fields) (λ bs. Ok (b ∷ bs)))

-- the row of so many columns that the record at the place `k` is
abbrev pub row_of : ℕ → ℕ → Record → Read (List Bound)
row_of width k fields = if length fields == width then numbers_of k fields else Err (Shape k)

-- the rows that the records from the place `k` on are
abbrev pub rows_of : ℕ → ℕ → List Record → Read (List (List Bound))
rows_of width k [] = Ok []
rows_of width k (r ∷ rs) =
    then_read (row_of width k r) (λ row.
    then_read (rows_of width (k + 1) rs) (λ rows. Ok (row ∷ rows)))

-- ---- the table
-- the header's names
abbrev pub names_of : Record → Read (List (List ℕ))
names_of header = if is_header (map trimmed header) then Ok (map trimmed header) else Err (Shape 1)

abbrev pub table_in : List Record → Read Table
table_in [] = Err TooFew
table_in (header ∷ below) =
    then_read (names_of header) (λ names.
    then_read (rows_of (length names) 2 below) (λ rows. Ok (record { columns = names; rows = rows })))

-- what the text of a block is read as
unfoldable pub records_read : List ℕ → Read Table
records_read block = table_in (records_of block)

-- ---- what is read
-- the columns are those of a header, and each row has a number for each of them
pub record IsTable (t : Table) : Type 0 where
  pub header : is_header t.columns ≡ true
  pub widths : list_all (λ row. length row == length t.columns) t.rows ≡ true
