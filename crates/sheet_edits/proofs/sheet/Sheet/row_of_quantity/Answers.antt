use Rattle.std.proofs.Common.{◌∙◌, sym}
use Rattle.sheet_rows.specs.Rows.{row_part}
use Rattle.sheet_rows.specs.Sheets.{is_named}
use Rattle.sheet_edits.proofs.Verdicts.{find_place, find_nowhere}
use Rattle.sheet_edits.proofs.sheet.Sheet.row_of_quantity.Goals as goal

pub returns-in-Some-clause-row : goal.returns-in-Some-clause-row
returns-in-Some-clause-row c =
    c.row_at.ensures ∙ find_place (is_named (row_part c.args.name.now)) c.args.self.now.rows c.in-Some.at (sym c.place_of_quantity.ensures ∙ c.in-Some.is)

pub returns-in-None-clause-row : goal.returns-in-None-clause-row
returns-in-None-clause-row c = sym (find_nowhere (is_named (row_part c.args.name.now)) c.args.self.now.rows (sym c.place_of_quantity.ensures ∙ c.in-None.is))
