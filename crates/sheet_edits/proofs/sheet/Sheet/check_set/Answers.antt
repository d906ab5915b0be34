use Rattle.std.proofs.Common.{◌∙◌, Some, ap, subst, sym, rules}
use Rattle.std.specs.Prelude.{find}
use Rattle.sheet_rows.specs.Rows.{row_of, name_of}
use Rattle.sheet_rows.specs.Sheets.{is_named}
use Rattle.sheet_edits.specs.Verdicts.{set_row, unless_left, verdict_set}
use Rattle.sheet_edits.specs.Places.{IsVerdict}
use Rattle.sheet_edits.proofs.Verdicts.{never_nowhere, set_by_names}
use Rattle.sheet_edits.proofs.Keeping.{set_stands, verdict_stands}
use Rattle.sheet_edits.proofs.sheet.Sheet.check_set.Goals as goal

pub returns-in_err-check_names-clause-verdict : goal.returns-in_err-check_names-clause-verdict
returns-in_err-check_names-clause-verdict c =
    let sheet = c.args.self.now in
    let row = row_of c.args.row.now in
    let refused = c.in_err-check_names.ensures (unless_left (set_row row sheet) row) in
    rw (set_by_names sheet row c.args.at c.rows-rows.ensures.standing.regular c.requires.regular c.rows-rows.ensures.standing.well_formed.once c.requires.there) (search rules)

pub check_left-requires-clause-old : goal.check_left-requires-clause-old
check_left-requires-clause-old c =
    let own = name_of (row_of c.args.row.now) in
    ap (λ n. find (is_named n) c.args.self.now.rows) (sym c.name.ensures) ∙ sym c.in-Some.ensures.row ∙ ap (λ r. Some (row_of r)) (sym c.deref.ensures)

pub returns-in-None-clause-verdict : goal.returns-in-None-clause-verdict
returns-in-None-clause-verdict c =
    absurd (never_nowhere c.args.self.now (name_of (row_of c.args.row.now)) c.args.at c.requires.there
    (c.in-None.ensures.row ∙ ap (λ n. find (is_named n) c.args.self.now.rows) c.name.ensures))

pub returns-in-None-clause-standing : goal.returns-in-None-clause-standing
returns-in-None-clause-standing c =
    absurd (never_nowhere c.args.self.now (name_of (row_of c.args.row.now)) c.args.at c.requires.there
    (c.in-None.ensures.row ∙ ap (λ n. find (is_named n) c.args.self.now.rows) c.name.ensures))

pub returns-in-Some-clause-verdict : goal.returns-in-Some-clause-verdict
returns-in-Some-clause-verdict c =
    let sheet = c.args.self.now in
    let row = row_of c.args.row.now in
    subst (IsVerdict c.check_left.result (set_row row sheet))
    (sym (set_by_names sheet row c.args.at c.rows-rows.ensures.standing.regular c.requires.regular c.rows-rows.ensures.standing.well_formed.once c.requires.there
    ∙ c.in_ok-check_names.ensures (unless_left (set_row row sheet) row)))
    c.check_left.ensures

pub returns-in-Some-clause-standing : goal.returns-in-Some-clause-standing
returns-in-Some-clause-standing c =
    let sheet = c.args.self.now in
    let row = row_of c.args.row.now in
    verdict_stands c.check_left.result (set_row row sheet) (verdict_set sheet row)
    (λ edited. set_stands sheet edited row c.rows-rows.ensures.standing c.requires.regular) (returns-in-Some-clause-verdict c)
