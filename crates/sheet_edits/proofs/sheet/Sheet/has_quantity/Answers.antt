use Rattle.std.proofs.Common.{◌∙◌, ap, sym}
use Rattle.sheet_rows.specs.Rows.{gives, row_part}
use Rattle.sheet_rows.proofs.Named.{holds}
use Rattle.sheet_rows.proofs.Quantities.{quantity_found}
use Rattle.sheet_edits.proofs.sheet.Sheet.has_quantity.Goals as goal

pub returns-in-Some : goal.returns-in-Some
returns-in-Some c =
    let n = c.args.name.now in
    rw (c.gives.ensures, c.deref.ensures)
    (sym (quantity_found c.args.self.now.rows n c.row_of_quantity.ensures.standing.regular c.row_of_quantity.ensures.standing.well_formed.once ∙ ap (holds (λ r. gives r n) (row_part n)) (sym c.in-Some.ensures.row)))

pub returns-in-None : goal.returns-in-None
returns-in-None c =
    let n = c.args.name.now in
    sym (quantity_found c.args.self.now.rows n c.row_of_quantity.ensures.standing.regular c.row_of_quantity.ensures.standing.well_formed.once ∙ ap (holds (λ r. gives r n) (row_part n)) (sym c.in-None.ensures.row))
