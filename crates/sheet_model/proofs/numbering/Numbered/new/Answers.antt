use Rattle.std.proofs.Common.{map, sym, subst, refl}
use Rattle.sheet_rows.specs.Rows.{row_of, sheet_of}
use Rattle.sheet_rows.specs.Regular.{IsRegular}
use Rattle.sheet_model.specs.Quantities.{row_quantities}
use Rattle.sheet_model.specs.Numbering.{CanTake, IsWalked}
use Rattle.sheet_model.proofs.Walking.{walk_begins, walked_on, walk_ends, can_take, left_next, none_left}
use Rattle.sheet_model.proofs.numbering.Numbered.new.Goals as goal

pub loop-row-init : goal.loop-row-init
loop-row-init c =
    walk_begins (sheet_of (map (λ row. row_of row.value) c.args.rows.now)) _ _ c.requires refl c.new.ensures.empty (cc c.in_ok-new.ensures)
    (cc c.in_ok-new-2.ensures)

pub add_row-requires-clause-regular : goal.add_row-requires-clause-regular
add_row-requires-clause-regular c =
    let rows = map (λ row. row_of row.value) c.args.rows.now in
    let walked = subst (λ left. IsWalked rows left c.loop-row.numbered)
    (left_next (λ row. row_of row.value) c.args.rows.now c.loop-row.row-index c.row-item.result c.row-item.is c.loop-row-test.true)
    c.loop-row.invariant in
    subst (λ row. IsRegular (row_of row)) (sym c.deref.ensures) walked.follow.0.regular

pub add_row-requires-clause-next : goal.add_row-requires-clause-next
add_row-requires-clause-next c =
    let rows = map (λ row. row_of row.value) c.args.rows.now in
    let walked = subst (λ left. IsWalked rows left c.loop-row.numbered)
    (left_next (λ row. row_of row.value) c.args.rows.now c.loop-row.row-index c.row-item.result c.row-item.is c.loop-row-test.true)
    c.loop-row.invariant in
    subst (λ row. CanTake c.loop-row.numbered (row_quantities (row_of row))) (sym c.deref.ensures)
    (can_take rows _ (row_of c.row-item.result.value) c.loop-row.numbered walked)

pub loop-row-preserved : goal.loop-row-preserved
loop-row-preserved c =
    let rows = map (λ row. row_of row.value) c.args.rows.now in
    let walked = subst (λ left. IsWalked rows left c.loop-row.numbered)
    (left_next (λ row. row_of row.value) c.args.rows.now c.loop-row.row-index c.row-item.result c.row-item.is c.loop-row-test.true)
    c.loop-row.invariant in
    walked_on rows _ (row_of c.row-item.result.value) c.loop-row.numbered c.add_row.new.self walked (rw c.deref.ensures at c.in_ok-add_row.ensures)

pub returns : goal.returns
returns c =
    let rows = map (λ row. row_of row.value) c.args.rows.now in
    walk_ends (sheet_of rows) c.loop-row.numbered
    (subst (λ left. IsWalked rows left c.loop-row.numbered)
    (none_left (λ row. row_of row.value) c.args.rows.now c.loop-row.row-index c.loop-row-test.false) c.loop-row.invariant)
