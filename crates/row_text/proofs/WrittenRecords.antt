-- Fields with a comma between each two, in lines, are the records of these fields.
use Rattle.std.proofs.Common.{◌≡◌, ℕ, zero, suc, ◌+◌, ◌<◌, ◌≤◌, ◌==◌, false, List, [], ◌∷◌, ◌++◌, length, Some, refl, sym, ◌∙◌, ap, arith, length-append}
use Rattle.std.specs.Prelude.{codes}
use Rattle.std.specs.List.{list_any, join_with_byte}
use Rattle.std.proofs.lemmas.Bool.Decides.{nat_tests}
use Rattle.csv.specs.Machine.{next_record}
use Rattle.csv.specs.Reading.{default_config, records, records_from, records_next, strip_bom}
use Rattle.csv.specs.Writing.{default_writer, needs_byte, comma, field_text, fields_text, row_text, is_blank}
use Rattle.csv.specs.declared.parser.State.TheVariants as st
use Rattle.csv.proofs.RoundTrip.{read-write}
use Rattle.table_records.specs.Records.{Record, records_of}
use Rattle.row_text.specs.Printing.{line_of_fields}
use Rattle.row_text.proofs.JoinedTexts.{after_commas, joined_first}

-- a field that needs no quotes, and is not empty
pub record IsField (x : List ℕ) : Type 0 where
  pub plain : list_any (needs_byte default_writer) x ≡ false
  pub some : 0 < length x

abbrev pub AreFields : List (List ℕ) → Type 0
AreFields [] = Unit {0}
AreFields (x ∷ xs) = IsField x × AreFields xs

-- a record has a field
abbrev pub IsRecord : Record → Type 0
IsRecord [] = ⊥
IsRecord (x ∷ xs) = AreFields (x ∷ xs)

abbrev pub AreRecords : List Record → Type 0
AreRecords [] = Unit {0}
AreRecords (r ∷ rs) = IsRecord r × AreRecords rs

-- the records, a line each
abbrev pub lines_of : List Record → List ℕ
lines_of [] = []
lines_of (r ∷ rs) = line_of_fields r ++ lines_of rs

-- ---- a line is what the writer of `csv` writes
field_written : (x : List ℕ) → IsField x → field_text default_writer x ≡ x
field_written x h = rw h.plain refl

others_written : (xs : List (List ℕ)) → AreFields xs → fields_text default_writer xs ≡ after_commas xs
unfolding fields_text
others_written [] h = refl
others_written (x ∷ xs) h = rw (field_written x h.0, others_written xs h.1) refl

not_blank : (x : List ℕ) (xs : List (List ℕ)) → IsField x → is_blank default_writer (x ∷ xs) ≡ false
unfolding is_blank
not_blank x [] h =
    let some : (length x == 0) ≡ false = let l = h.some in grind (arith, nat_tests) in
    rw (field_written x h) some
not_blank x (y ∷ ys) h = refl

line_written : (x : List ℕ) (xs : List (List ℕ)) → AreFields (x ∷ xs) → row_text default_writer (x ∷ xs) ≡ line_of_fields (x ∷ xs)
line_written x xs h =
    rw (not_blank x xs h.0, field_written x h.0, others_written xs h.1) (ap (λ t. t ++ codes "\n") (sym (joined_first x xs)))

-- ---- and what its reader reads back
line_read : (r : Record) (tail : List ℕ) → IsRecord r →
    next_record default_config st.StartRecord [] [] (line_of_fields r ++ tail) ≡ Some (r, st.StartRecord, tail)
line_read [] tail h = absurd h
line_read (x ∷ xs) tail h =
    ap (λ t. next_record default_config st.StartRecord [] [] (t ++ tail)) (sym (line_written x xs h)) ∙ read-write (x ∷ xs) tail

lines_read : (n : ℕ) (rs : List Record) → AreRecords rs → length rs ≤ n → records_from default_config n st.StartRecord (lines_of rs) ≡ rs
unfolding records_from next_record
lines_read zero [] h fits = refl
lines_read (suc n) [] h fits = refl
lines_read zero (r ∷ rs) h fits = absurd (omega (arith, fits))
lines_read (suc n) (r ∷ rs) h fits =
    ap (λ o. records_next (records_from default_config n) o) (line_read r (lines_of rs) h.0)
    ∙ ap (λ more. r ∷ more) (lines_read n rs h.1 (omega (arith, fits)))

enough : (rs : List Record) → length rs ≤ length (lines_of rs)
enough [] = omega arith
enough (r ∷ rs) =
    let more = length-append (join_with_byte comma r) (codes "\n") in
    omega (arith, length-append (line_of_fields r) (lines_of rs), more, enough rs)

all_read : (rs : List Record) → AreRecords rs → records default_config (lines_of rs) ≡ rs
all_read rs h = lines_read (length (lines_of rs) + 1) rs h (omega (arith, enough rs))

-- ---- a text that begins with another byte than the byte order mark
no_mark : (byte : ℕ) (rest : List ℕ) → (byte == 0xEF) ≡ false → strip_bom (byte ∷ rest) ≡ byte ∷ rest
unfolding strip_bom
no_mark byte [] h = refl
no_mark byte (b ∷ []) h = refl
no_mark byte (b ∷ c ∷ rest) h = rw h refl

pub records_again : (rs : List Record) (byte : ℕ) (rest : List ℕ) → AreRecords rs → lines_of rs ≡ byte ∷ rest → (byte == 0xEF) ≡ false →
    records_of (lines_of rs) ≡ rs
records_again rs byte rest h first other =
    ap (λ t. records default_config t) (ap strip_bom first ∙ no_mark byte rest other ∙ sym first) ∙ all_read rs h
