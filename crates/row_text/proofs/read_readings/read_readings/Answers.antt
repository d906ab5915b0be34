use Rattle.std.proofs.Common.{◌≡◌, sym, ◌∙◌, ap, subst}
use Rattle.line_text.specs.Words.{words_left}
use Rattle.type_a.specs.Tables.{table_of}
use Rattle.type_a.specs.Tables.{single}
use Rattle.sheet_rows.specs.Rows.{Readings}
use Rattle.sheet_rows.specs.Regular.{IsRegular}
use Rattle.row_text.proofs.RegularRows.{regular_readings}
use Rattle.row_text.proofs.read_readings.read_readings.Goals as goal

pub returns-clause-regular : goal.returns-clause-regular
returns-clause-regular c =
    let same : table_of c.as_slice-2.result.now ≡ single c.in_ok-numbers.numbers.items =
    ap table_of c.as_slice-2.ensures.value ∙ c.in_ok-records.ensures ∙ ap single c.as_slice.ensures.value in
    subst (λ t. IsRegular (Readings c.in_ok-name.name t)) (sym c.in_ok-readings-2.ensures)
    (regular_readings c.in_ok-name.name (words_left c.read_plain.new.words) c.in_ok-numbers.numbers.items (table_of c.as_slice-2.result.now)
    c.in_ok-readings.readings c.in_ok-name.ensures.plain c.in_ok-numbers.ensures same c.in_ok-readings.ensures)
