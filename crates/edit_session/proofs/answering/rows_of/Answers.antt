use Rattle.std.proofs.Common.{◌+◌, ◌∷◌, ◌++◌, [], map, drop, sym, ◌∙◌, ap}
use Rattle.std.proofs.lemmas.List.{append_assoc, append-nil}
use Rattle.sheet_rows.specs.Rows.{row_of}
use Rattle.sheet_model.proofs.Walking.{left_next, none_left}
use Rattle.edit_session.proofs.answering.rows_of.Goals as goal

pub loop-row-init : goal.loop-row-init
loop-row-init c =
    ap (λ rows. rows ++ map (λ row. row_of row.value) c.rows-row-items.result.now) c.in_ok-rows.ensures ∙ c.rows-row-items.ensures.rows

pub loop-row-preserved : goal.loop-row-preserved
loop-row-preserved c =
    let left = map (λ row. row_of row.value) (drop (c.loop-row.row-index + 1) c.rows-row-items.result.now) in
    ap (λ rows. rows ++ left) (c.in_ok-push.ensures.ok ∙ ap (λ row. c.loop-row.rows ++ row_of row ∷ []) c.in_ok-clone.ensures.cases)
    ∙ append_assoc c.loop-row.rows (row_of c.row-item.result.value ∷ []) left
    ∙ ap (λ rows. c.loop-row.rows ++ rows)
    (sym (left_next (λ row. row_of row.value) c.rows-row-items.result.now c.loop-row.row-index c.row-item.result c.row-item.is c.loop-row-test.true))
    ∙ c.loop-row.invariant

pub returns-clause-rows : goal.returns-clause-rows
returns-clause-rows c =
    sym (append-nil c.loop-row.rows)
    ∙ ap (λ left. c.loop-row.rows ++ left)
    (sym (none_left (λ row. row_of row.value) c.rows-row-items.result.now c.loop-row.row-index c.loop-row-test.false))
    ∙ c.loop-row.invariant
