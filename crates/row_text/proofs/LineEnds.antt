-- Where a line is read from a place after its end.
use Rattle.std.proofs.Common.{◌≡◌, ℕ, ◌+◌, ◌<◌, List, [], length, Err, ap, arith}
use Rattle.std.proofs.lemmas.List.{drop_all}
use Rattle.line_text.specs.Words.{words, words_from}
use Rattle.row_text.specs.Reading.{row_at, row_from}
use Rattle.row_text.specs.Tables.{table_at}
use Rattle.sheet_rows.specs.declared.fault.RowFault.TheVariants.{Syntax}

none_after : (line : List ℕ) (from : ℕ) → length line < from → words_from line from ≡ []
none_after line from past = ap (λ rest. words rest 0 from) (drop_all from line (omega (arith, past)))

pub after_end : (line : List ℕ) (from : ℕ) → length line < from → row_from line from ≡ Err (Syntax (length line + 1))
after_end line from past = ap (λ ws. row_at line ws) (none_after line from past)

pub table_after_end : (line : List ℕ) (from : ℕ) (block : List ℕ) → length line < from →
    table_at line (words_from line from) block ≡ Err (Syntax (length line + 1))
table_after_end line from block past = ap (λ ws. table_at line ws block) (none_after line from past)
