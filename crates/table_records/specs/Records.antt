-- The records of a text of comma-separated fields: of which fields each is, as the library `csv` defines it, and what is
-- written in a field.
use Rattle.std.specs.Prelude.{ℕ, List, drop, take}
use Rattle.std.specs.List.{prefix_len}
use Rattle.csv.specs.Reading.{records, default_config, strip_bom}
use Rattle.line_text.specs.Blanks.{is_blank, written_len}

-- a record: its fields, each with its blanks
abbrev pub Record : Type 0
Record = List (List ℕ)

-- the records of a text, with commas, double quotes and no other setting. A byte order mark at the start is no part of
-- them, a line without bytes is none, and one of blanks has one field
abbrev pub records_of : List ℕ → List Record
records_of block = records default_config (strip_bom block)

abbrev pub after_blanks : List ℕ → List ℕ
after_blanks field = drop (prefix_len is_blank field) field

-- the field without the blanks at its ends
abbrev pub trimmed : List ℕ → List ℕ
trimmed field = take (written_len (after_blanks field)) (after_blanks field)
