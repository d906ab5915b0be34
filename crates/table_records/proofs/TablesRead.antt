-- What is read is a table: its columns are those of a header, and each row has a number for each of them.
use Rattle.std.proofs.Common.{◌≡◌, ℕ, suc, ◌+◌, ◌==◌, Bool, true, false, List, [], ◌∷◌, length, map, Result, Ok, Err, IfOk, refl, sym, ap}
use Rattle.std.specs.List.{list_all}
use Rattle.std.proofs.lemmas.Bool.{and_from}
use Rattle.decimal18.specs.Bound.{Bound}
use Rattle.decimal18.specs.Literal.{parsed}
use Rattle.line_text.specs.Memory.{GivesBy}
use Rattle.table_records.specs.Records.{Record, trimmed}
use Rattle.table_records.specs.Header.{is_header}
use Rattle.table_records.specs.declared.fault.RecordsFault.{RecordsFault}
use Rattle.table_records.specs.declared.fault.RecordsFault.TheVariants.{OutOfMemory}
use Rattle.table_records.specs.declared.records.Records.{Records}
use Rattle.table_records.specs.Tables.{Read, then_read, Table, table_of, number_in, numbers_of, row_of, rows_of, names_of, table_in, IsTable}
use Rattle.table_records.proofs.RowSteps.{read_first}

ok_same : {A : Type 0} {x y : A} → ◌≡◌ {A = Read A} (Ok x) (Ok y) → x ≡ y
ok_same h = cc h

-- what is read of a list that has a first item
abbrev FirstRead : {A : Type 0} → Read A → Read (List A) → List A → Type 0
FirstRead {A} first rest all = (x : A) × (more : List A) × (first ≡ Ok x) × (rest ≡ Ok more) × (all ≡ x ∷ more)

first_read : {A : Type 0} (first : Read A) (rest : Read (List A)) (all : List A) → read_first first rest ≡ Ok all → FirstRead first rest all
first_read (Ok x) (Ok more) all e = (x, more, refl, refl, sym (ok_same e))
first_read (Ok x) (Err fault) all e = absurd (cc e)
first_read (Err fault) rest all e = absurd (cc e)

number_for_each : (k : ℕ) (fields : Record) (bs : List Bound) → numbers_of k fields ≡ Ok bs → length bs ≡ length fields
number_for_each k [] bs e = ap length (sym (ok_same e))
number_for_each k (field ∷ fields) bs e =
    let h = first_read (number_in k (parsed (trimmed field))) (numbers_of k fields) bs e in
    rw h.4 (ap suc (number_for_each k fields h.1 h.3))

row_width : (t : Bool) (width k : ℕ) (fields : Record) (row : List Bound) → (length fields == width) ≡ t → row_of width k fields ≡ Ok row →
    (length row == width) ≡ true
row_width true width k fields row fits e = rw (number_for_each k fields row (rw fits at e)) fits
row_width false width k fields row fits e = absurd (cc (rw fits at e))

widths : (width k : ℕ) (records : List Record) (rows : List (List Bound)) → rows_of width k records ≡ Ok rows →
    list_all (λ row. length row == width) rows ≡ true
widths width k [] rows e = rw (← ok_same e) refl
widths width k (r ∷ rs) rows e =
    let h = first_read (row_of width k r) (rows_of width (k + 1) rs) rows e in
    rw h.4 (and_from _ _ (row_width (length r == width) width k r h.0 refl h.2) (widths width (k + 1) rs h.1 h.3))

header_names : (t : Bool) (header : Record) (names : List (List ℕ)) → is_header (map trimmed header) ≡ t → names_of header ≡ Ok names →
    is_header names ≡ true
header_names true header names is e = rw (← ok_same (rw is at e)) is
header_names false header names is e = absurd (cc (rw is at e))

below_header : (header : Record) (below : List Record) (names : Read (List (List ℕ))) (t : Table) → names_of header ≡ names →
    table_in (header ∷ below) ≡ Ok t → IsTable t
below_header header below (Err fault) t is e = absurd (cc (rw is at e))
below_header header below (Ok names) t is e = with_rows (rows_of (length names) 2 below) refl (rw is at e)
  where
    with_rows : (rows : Read (List (List Bound))) → rows_of (length names) 2 below ≡ rows →
        then_read rows (λ rows. Ok (record { columns = names; rows = rows })) ≡ Ok t → IsTable t
    with_rows (Err fault) there e = absurd (cc e)
    with_rows (Ok rows) there e = rw (← ok_same e) (record {
      header = header_names (is_header (map trimmed header)) header names refl is;
      widths = widths (length names) 2 below rows there;
    })

is_table : (records : List Record) (t : Table) → table_in records ≡ Ok t → IsTable t
is_table [] t e = absurd (cc e)
is_table (header ∷ below) t e = below_header header below (names_of header) t refl e

pub gives_table : (records : List Record) (result : Result Records RecordsFault) → GivesBy table_of OutOfMemory result (table_in records) →
    IfOk result (λ r. IsTable (table_of r))
gives_table records (Ok r) h = is_table records (table_of r) h
gives_table records (Err fault) h = tt
