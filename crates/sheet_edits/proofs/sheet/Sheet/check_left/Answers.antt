use Rattle.std.proofs.Common.{◌∙◌, ap, sym, Ok}
use Rattle.std.specs.Prelude.{find}
use Rattle.std.specs.Option.{option_map}
use Rattle.sheet_rows.specs.Rows.{row_of, name_of}
use Rattle.sheet_rows.specs.declared.edit_fault.EditFault.TheVariants.{InUse}
use Rattle.sheet_edits.specs.Verdicts.{set_row, unless}
use Rattle.sheet_edits.specs.Places.{is_left_by}
use Rattle.sheet_edits.proofs.Left.{none_left, left_by_name}
use Rattle.sheet_edits.proofs.sheet.Sheet.check_left.Goals as goal

pub returns-then-loses_nothing : goal.returns-then-loses_nothing
returns-then-loses_nothing c =
    none_left c.args.self.now (row_of c.args.old.now) (row_of c.args.row.now) c.rows-rows.ensures.standing.well_formed c.rows-rows.ensures.standing.regular c.requires.regular c.requires.old (sym c.loses_nothing.ensures ∙ c.if-loses_nothing.true)

pub returns-in-Some : goal.returns-in-Some
returns-in-Some c =
    let sheet = c.args.self.now in
    let row = row_of c.args.row.now in
    let users = ap (λ rows. option_map name_of (find (is_left_by (row_of c.args.old.now) row) rows)) (sym c.rows-rows.ensures.rows) ∙ sym c.first_left_by.ensures ∙ c.in-Some.is in
    λ memory. left_by_name sheet (row_of c.args.old.now) row c.rows-rows.ensures.standing.well_formed c.rows-rows.ensures.standing.regular c.requires.regular c.requires.old ∙ ap (λ u. unless u InUse (Ok (set_row row sheet))) users

pub returns-in-None : goal.returns-in-None
returns-in-None c =
    let sheet = c.args.self.now in
    let row = row_of c.args.row.now in
    let users = ap (λ rows. option_map name_of (find (is_left_by (row_of c.args.old.now) row) rows)) (sym c.rows-rows.ensures.rows) ∙ sym c.first_left_by.ensures ∙ c.in-None.is in
    left_by_name sheet (row_of c.args.old.now) row c.rows-rows.ensures.standing.well_formed c.rows-rows.ensures.standing.regular c.requires.regular c.requires.old ∙ ap (λ u. unless u InUse (Ok (set_row row sheet))) users
