use Rattle.std.proofs.Common.{◌≡◌, Some, ◌∙◌, ap, sym, true≢false}
use Rattle.sheet_rows.specs.Rows.{row_of, name_of}
use Rattle.sheet_rows.specs.Sheets.{is_named}
use Rattle.sheet_edits.specs.Places.{place_of}
use Rattle.sheet_edits.proofs.Verdicts.{set_unknown, there_at}
use Rattle.sheet_edits.proofs.sheet.Sheet.place_to_set.Goals as goal

pub returns-in_default-clause-verdict : goal.returns-in_default-clause-verdict
returns-in_default-clause-verdict c =
    let sheet = c.args.self.now in
    λ memory. rw (c.name-name.ensures) (set_unknown sheet (row_of c.args.row.now) (ap (place_of sheet) (sym c.name-name.ensures) ∙ sym c.place_of.ensures ∙ c.in_default.is))

pub returns-in_err-check_set-clause-unknown : goal.returns-in_err-check_set-clause-unknown
returns-in_err-check_set-clause-unknown c =
    let sheet = c.args.self.now in
    let own = name_of (row_of c.args.row.now) in
    let at : place_of sheet own ≡ Some c.in-Some.at = ap (place_of sheet) (sym c.name-name.ensures) ∙ sym c.place_of.ensures ∙ c.in-Some.is in
    λ none. absurd (true≢false (sym (there_at (is_named own) sheet.rows c.in-Some.at at) ∙ none))
