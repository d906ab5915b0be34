use Rattle.std.proofs.Common.{map, subst}
use Rattle.sheet_rows.specs.Rows.{row_of}
use Rattle.sheet_model.specs.Statements.{IsRead}
use Rattle.sheet_model.proofs.Walking.{left_next, none_left}
use Rattle.sheet_model.proofs.Stated.{reading_begins, read_on, reading_ends}
use Rattle.sheet_model.proofs.statements.Statements.of.Goals as goal

pub loop-row-init : goal.loop-row-init
loop-row-init c = reading_begins (map (λ row. row_of row.value) c.args.rows.now) _ c.new.ensures.empty c.new-2.ensures.empty

pub loop-row-preserved : goal.loop-row-preserved
loop-row-preserved c =
    let rows = map (λ row. row_of row.value) c.args.rows.now in
    let read = subst (λ left. IsRead rows left c.loop-row.found)
    (left_next (λ row. row_of row.value) c.args.rows.now c.loop-row.row-index c.row-item.result c.row-item.is c.loop-row-test.true)
    c.loop-row.invariant in
    read_on rows _ (row_of c.row-item.result.value) c.loop-row.found c.add.new.self c.requires read (rw c.deref.ensures at c.in_ok-add.ensures)

pub returns : goal.returns
returns c =
    let rows = map (λ row. row_of row.value) c.args.rows.now in
    reading_ends rows c.loop-row.found
    (subst (λ left. IsRead rows left c.loop-row.found)
    (none_left (λ row. row_of row.value) c.args.rows.now c.loop-row.row-index c.loop-row-test.false) c.loop-row.invariant)
