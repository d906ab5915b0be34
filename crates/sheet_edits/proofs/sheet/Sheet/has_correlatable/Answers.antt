use Rattle.std.proofs.Common.{◌∙◌, ap, sym}
use Rattle.sheet_rows.specs.Rows.{is_correlatable}
use Rattle.sheet_rows.proofs.Named.{holds, has_found}
use Rattle.sheet_edits.proofs.sheet.Sheet.has_correlatable.Goals as goal

pub returns-in-Some : goal.returns-in-Some
returns-in-Some c =
    let n = c.args.name.now in
    rw (c.is_correlatable.ensures, c.deref.ensures)
    (sym (has_found is_correlatable n c.args.self.now.rows c.row_named.ensures.standing.well_formed.once ∙ ap (holds is_correlatable n) (sym c.in-Some.ensures.row)))

pub returns-in-None : goal.returns-in-None
returns-in-None c =
    let n = c.args.name.now in
    sym (has_found is_correlatable n c.args.self.now.rows c.row_named.ensures.standing.well_formed.once ∙ ap (holds is_correlatable n) (sym c.in-None.ensures.row))
