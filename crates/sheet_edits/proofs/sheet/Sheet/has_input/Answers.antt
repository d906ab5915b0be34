use Rattle.std.proofs.Common.{◌∙◌, ap, sym}
use Rattle.sheet_rows.specs.Rows.{gives_input, row_part}
use Rattle.sheet_rows.proofs.Named.{holds}
use Rattle.sheet_rows.proofs.Quantities.{input_found}
use Rattle.sheet_edits.proofs.sheet.Sheet.has_input.Goals as goal

pub returns-in-Some : goal.returns-in-Some
returns-in-Some c =
    let n = c.args.name.now in
    rw (c.gives_input.ensures, c.deref.ensures)
    (sym (input_found c.args.self.now.rows n c.row_of_quantity.ensures.standing.regular c.row_of_quantity.ensures.standing.well_formed.once ∙ ap (holds (λ r. gives_input r n) (row_part n)) (sym c.in-Some.ensures.row)))

pub returns-in-None : goal.returns-in-None
returns-in-None c =
    let n = c.args.name.now in
    sym (input_found c.args.self.now.rows n c.row_of_quantity.ensures.standing.regular c.row_of_quantity.ensures.standing.well_formed.once ∙ ap (holds (λ r. gives_input r n) (row_part n)) (sym c.in-None.ensures.row))
