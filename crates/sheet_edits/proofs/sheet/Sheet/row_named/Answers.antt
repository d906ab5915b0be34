use Rattle.std.proofs.Common.{◌∙◌, sym}
use Rattle.sheet_rows.specs.Sheets.{is_named}
use Rattle.sheet_edits.proofs.Verdicts.{find_nowhere, find_place}
use Rattle.sheet_edits.proofs.sheet.Sheet.row_named.Goals as goal

pub returns-in-Some-clause-row : goal.returns-in-Some-clause-row
returns-in-Some-clause-row c =
    c.row_at.ensures ∙ find_place (is_named c.args.name.now) c.args.self.now.rows c.in-Some.at (sym c.place_of.ensures ∙ c.in-Some.is)

pub returns-in-None-clause-row : goal.returns-in-None-clause-row
returns-in-None-clause-row c = sym (find_nowhere (is_named c.args.name.now) c.args.self.now.rows (sym c.place_of.ensures ∙ c.in-None.is))
