use Rattle.std.proofs.Common.{bytes_eq, ◌∙◌, ap, ap₂, refl}
use Rattle.std.proofs.lemmas.Bool.{ne_eqb}
use Rattle.sheet_rows.specs.Rows.{column_name}
use Rattle.sheet_rows.proofs.Columns.{other_column, too_short, other_table, no_point, by_column, is_other, is_same}
use Rattle.sheet_rows.proofs.row.is_of_column.Goals as goal
use Rattle.sheet_rows.proofs.row.is_of_column.Goals.{then-at-text-via-then-at-text, then-at-text-via-else-at-text+then-ne}

pub returns-then-at-text : goal.returns-then-at-text
returns-then-at-text c =
    let same = ap₂ (λ n t. bytes_eq n (column_name t c.args.column.now)) c.as_bytes-text.ensures.text c.as_bytes-table.ensures.text in
    other_column c.as_bytes-text.result.now c.as_bytes-table.result.now c.args.column.now
    (elim c.then-at-text.branch [
      | then-at-text-via-then-at-text w ↦ too_short _ _ _ w.if-at-text.true
      | then-at-text-via-else-at-text+then-ne w ↦ other_table _ _ _ (is_other _ _ w.ne.ensures w.if-ne.true)
    ]) ∙ same

pub returns-then-text-at-eq46 : goal.returns-then-text-at-eq46
returns-then-text-at-eq46 c =
    let same = ap₂ (λ n t. bytes_eq n (column_name t c.args.column.now)) c.as_bytes-text.ensures.text c.as_bytes-table.ensures.text in
    let own = ap (column_name c.as_bytes-table.result.now) c.as_bytes.ensures.text in
    c.eq.ensures ∙ by_column c.as_bytes-text.result.now c.as_bytes-table.result.now c.as_bytes.result.now _ c.if-at-text.false (is_same _ _ c.ne.ensures c.if-ne.false) c.if-text-at-eq46.true refl
    ∙ ap (bytes_eq c.as_bytes-text.result.now) own ∙ same

pub returns-else-text-at-eq46 : goal.returns-else-text-at-eq46
returns-else-text-at-eq46 c =
    let same = ap₂ (λ n t. bytes_eq n (column_name t c.args.column.now)) c.as_bytes-text.ensures.text c.as_bytes-table.ensures.text in
    ne_eqb _ _ c.if-text-at-eq46.false ∙ other_column c.as_bytes-text.result.now c.as_bytes-table.result.now c.args.column.now (no_point _ _ _ c.if-text-at-eq46.false) ∙ same
