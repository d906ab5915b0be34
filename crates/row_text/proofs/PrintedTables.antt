-- The printed text of inputs by joint readings is read as the inputs again.
use Rattle.std.proofs.Common.{◌≡◌, ℕ, suc, ◌+◌, ◌<◌, ◌==◌, true, List, [], ◌∷◌, ◌++◌, map, length, drop, take, refl, sym, ◌∙◌, ap, subst, arith, None, Ok}
use Rattle.std.specs.Prelude.{codes}
use Rattle.std.specs.List.{list_all, prefix_len}
use Rattle.std.proofs.lemmas.Bool.{and_parts, eq-eqb}
use Rattle.std.proofs.lemmas.Bool.Decides.{nat_tests}
use Rattle.std.proofs.Math.Seq.{take-length}
use mathlib.Core.List.{append-nil}
use Rattle.decimal18.specs.Bound.{Bound}
use Rattle.decimal18.specs.Text.{text_of}
use Rattle.decimal18.specs.Literal.{parsed}
use Rattle.decimal18.proofs.TextAgain.{read_again as bound_again}
use Rattle.formula_ast.specs.Names.{begins_name, is_plain_name}
use Rattle.line_text.specs.Blanks.{is_blank, written_len}
use Rattle.line_text.specs.Words.{words_from}
use Rattle.line_text.proofs.WrittenTexts.{IsSolid, solid_written, no_blanks}
use Rattle.type_a.specs.Tables.{Record, Table, refusal}
use Rattle.table_records.specs.Records.{records_of, after_blanks, trimmed}
use Rattle.table_records.specs.Header.{is_column, is_header}
use Rattle.table_records.specs.Tables.{then_read as then_records, number_in, numbers_of, row_of, rows_of, names_of, table_in, records_read}
use Rattle.sheet_rows.specs.Rows.{Joint}
use Rattle.sheet_rows.specs.Regular.{IsRegular, AreDecimals, AllAreDecimals}
use Rattle.sheet_rows.proofs.Parts.{not_refused}
use Rattle.row_text.specs.Tables.{head_name, joint_of, table_at, table_read}
use Rattle.row_text.specs.Parts.{then_read}
use Rattle.row_text.specs.Printing.{number_fields, line_of_fields, records_text, head_text, block_text}
use Rattle.row_text.proofs.PlainBytes.{ArePlain, all_in_word, no_quotes, names_plain, name_some, text_plain, text_some}
use Rattle.row_text.proofs.SolidTexts.{plain_solid}
use Rattle.row_text.proofs.PartedWords.{spaced, AreWords, words_again, spaced_solid}
use Rattle.row_text.proofs.JoinedTexts.{after_commas, joined_first}
use Rattle.row_text.proofs.Widths.{AreOfWidth, are_of_width}
use Rattle.row_text.proofs.WrittenRecords.{IsField, AreFields, IsRecord, AreRecords, lines_of, records_again}
use Rattle.row_text.proofs.PrintedReadings.{taken_table}

-- ---- fields
plain_field : (text : List ℕ) → ArePlain text → 0 < length text → IsField text
plain_field text all some = record { plain = no_quotes text all; some = some }

-- a field has no blanks at its ends
plain_trimmed : (text : List ℕ) → ArePlain text → 0 < length text → trimmed text ≡ text
plain_trimmed text all some =
    let none : prefix_len is_blank text ≡ 0 = ap (prefix_len is_blank) (sym (append-nil text)) ∙ no_blanks text [] (all_in_word text all) some in
    let same : after_blanks text ≡ text = ap (λ n. drop n text) none in
    ap (λ t. take (written_len t) t) same ∙ ap (λ n. take n text) (plain_solid text all some).ends ∙ take-length text

-- ---- the records
columns_plain : (columns : List (List ℕ)) → list_all is_column columns ≡ true → AreFields columns × (map trimmed columns ≡ columns)
columns_plain [] h = (tt, refl)
columns_plain (name ∷ names) h =
    let both = and_parts (is_column name) (list_all is_column names) h in
    let plain : is_plain_name name ≡ true = (and_parts (is_plain_name name) _ both.0).0 in
    let all : ArePlain name = names_plain name plain in
    let rest = columns_plain names both.1 in
    let again : trimmed name ∷ map trimmed names ≡ name ∷ names = rw (plain_trimmed name all (name_some name plain), rest.1) refl in
    ((plain_field name all (name_some name plain), rest.0), again)

number_is_field : (b : Bound) → AreDecimals (b ∷ []) → IsField (text_of b)
number_is_field b h = plain_field (text_of b) (text_plain b h.0.bound) (text_some b h.0.bound)

numbers_are_fields : (r : Record) → AreDecimals r → AreFields (number_fields r)
numbers_are_fields [] h = tt
numbers_are_fields (b ∷ bs) h = (number_is_field b (h.0, tt), numbers_are_fields bs h.1)

numbers_again : (k : ℕ) (r : Record) → AreDecimals r → numbers_of k (number_fields r) ≡ Ok r
numbers_again k [] h = refl
numbers_again k (b ∷ bs) h =
    ap (λ t. then_records (number_in k (parsed t)) (λ x. then_records (numbers_of k (number_fields bs)) (λ xs. Ok (x ∷ xs))))
    (plain_trimmed (text_of b) (text_plain b h.0.bound) (text_some b h.0.bound))
    ∙ ap (λ r. then_records (number_in k r) (λ x. then_records (numbers_of k (number_fields bs)) (λ xs. Ok (x ∷ xs))))
    (bound_again b h.0.bound h.0.canonical)
    ∙ ap (λ r. then_records r (λ xs. Ok (b ∷ xs))) (numbers_again k bs h.1)

same_length : (r : Record) → length (number_fields r) ≡ length r
same_length [] = refl
same_length (b ∷ bs) = ap suc (same_length bs)

row_again : (width k : ℕ) (r : Record) → AreDecimals r → length r ≡ width → row_of width k (number_fields r) ≡ Ok r
row_again width k r h e =
    let all : (length (number_fields r) == width) ≡ true = eq-eqb (length (number_fields r)) width (same_length r ∙ e) in
    rw all (numbers_again k r h)

rows_again : (width k : ℕ) (t : Table) → AllAreDecimals t → AreOfWidth width t → rows_of width k (map number_fields t) ≡ Ok t
rows_again width k [] h e = refl
rows_again width k (r ∷ rs) h e = rw (row_again width k r h.0 e.0, rows_again width (k + 1) rs h.1 e.1) refl

-- ---- the block
records_lines : (t : Table) → records_text t ≡ lines_of (map number_fields t)
records_lines [] = refl
records_lines (r ∷ rs) = ap (λ text. line_of_fields (number_fields r) ++ text) (records_lines rs)

record_of_numbers : (width : ℕ) (r : Record) → 0 < width → AreDecimals r → length r ≡ width → IsRecord (number_fields r)
record_of_numbers width [] some h e = absurd (omega (arith, some, e))
record_of_numbers width (b ∷ bs) some h e = numbers_are_fields (b ∷ bs) h

records_of_numbers : (width : ℕ) (t : Table) → 0 < width → AllAreDecimals t → AreOfWidth width t → AreRecords (map number_fields t)
records_of_numbers width [] some h e = tt
records_of_numbers width (r ∷ rs) some h e = (record_of_numbers width r some h.0 e.0, records_of_numbers width rs some h.1 e.1)

block_again : (columns : List (List ℕ)) (t : Table) → list_all is_column columns ≡ true → 0 < length columns → AllAreDecimals t
    → AreOfWidth (length columns) t → records_of (block_text columns t) ≡ columns ∷ map number_fields t
block_again [] t all some h e = absurd (omega (arith, some))
block_again ([] ∷ names) t all some h e = absurd (cc all)
block_again ((byte ∷ bytes) ∷ names) t all some h e =
    let columns : List (List ℕ) = (byte ∷ bytes) ∷ names in
    let below : List (List (List ℕ)) = map number_fields t in
    let first = and_parts (is_column (byte ∷ bytes)) (list_all is_column names) all in
    let plain : is_plain_name (byte ∷ bytes) ≡ true = (and_parts (is_plain_name (byte ∷ bytes)) _ first.0).0 in
    ap (λ text. records_of (line_of_fields columns ++ text)) (records_lines t)
    ∙ records_again (columns ∷ below) byte (((bytes ++ after_commas names) ++ codes "\n") ++ lines_of below)
    ((columns_plain columns all).0, records_of_numbers (length columns) t some h e)
    (ap (λ line. (line ++ codes "\n") ++ lines_of below) (joined_first (byte ∷ bytes) names))
    (not_refused begins_name byte 0xEF (and_parts (begins_name byte) _ plain).0 refl)

header_some : (columns : List (List ℕ)) → is_header columns ≡ true → 0 < length columns
header_some columns h = grind (arith, nat_tests)

header_columns : (columns : List (List ℕ)) → is_header columns ≡ true → list_all is_column columns ≡ true
header_columns columns h = grind (arith, nat_tests)

names_again : (columns : List (List ℕ)) → is_header columns ≡ true → names_of columns ≡ Ok columns
names_again columns h = rw ((columns_plain columns (header_columns columns h)).1, h) refl

table_again : (columns : List (List ℕ)) (t : Table) → is_header columns ≡ true → AllAreDecimals t → AreOfWidth (length columns) t →
    records_read (block_text columns t) ≡ Ok (record { columns = columns; rows = t })
unfolding records_read
table_again columns t header h e =
    ap table_in (block_again columns t (header_columns columns header) (header_some columns header) h e)
    ∙ rw (names_again columns header, rows_again (length columns) 2 t h e) refl

joint_again : (name : List ℕ) (columns : List (List ℕ)) (t : Table) → is_header columns ≡ true → AllAreDecimals t → AreOfWidth (length columns) t →
    refusal t ≡ None → joint_of name (block_text columns t) ≡ Ok (Joint name columns t)
joint_again name columns t header h e taken = rw (table_again columns t header h e, taken_table t taken) refl

-- ---- the line
head_line : (name : List ℕ) → head_text name ≡ codes "table" ++ spaced (name ∷ [])
head_line name = ap (λ text. codes "table " ++ text) (sym (append-nil name))

head_are_words : (name : List ℕ) → is_plain_name name ≡ true → AreWords (codes "table" ∷ name ∷ [])
head_are_words name h =
    (record { plain = refl; some = omega arith }, (record { plain = names_plain name h; some = name_some name h }, tt))

named : (end p q : ℕ) (name : List ℕ) → is_plain_name name ≡ true →
    head_name end (record { place = p; text = codes "table" } ∷ record { place = q; text = name } ∷ []) ≡ Ok name
named end p q name plain = rw plain refl

head_again : (name : List ℕ) (end : ℕ) → is_plain_name name ≡ true → head_name end (words_from (head_text name) 0) ≡ Ok name
head_again name end h =
    ap (λ text. head_name end (words_from text 0)) (head_line name)
    ∙ ap (head_name end) (words_again (codes "table") (name ∷ []) 0 (head_are_words name h))
    ∙ named end 0 6 name h

head_solid : (name : List ℕ) → is_plain_name name ≡ true → IsSolid (head_text name)
head_solid name h = subst IsSolid (sym (head_line name)) (spaced_solid (codes "table") (name ∷ []) (head_are_words name h))

-- ---- the row
pub table_read_again : (name : List ℕ) (columns : List (List ℕ)) (t : Table) → IsRegular (Joint name columns t) →
    table_read (head_text name) 0 (block_text columns t) ≡ Ok (Joint name columns t)
unfolding table_read
table_read_again name columns t h =
    ap (λ line. table_at line (words_from line 0) (block_text columns t)) (solid_written (head_text name) (head_solid name h.0))
    ∙ ap (λ r. then_read r (λ n. joint_of n (block_text columns t))) (head_again name (length (head_text name)) h.0)
    ∙ joint_again name columns t h.1 h.2 (are_of_width (length columns) t h.4 h.3) h.4
