use Rattle.std.proofs.Common.{List, ◌∙◌, ap, sym, subst}
use Rattle.sheet_rows.specs.Rows.{Row}
use Rattle.sheet_rows.specs.Sheets.{is_named, IsStanding}
use Rattle.sheet_edits.proofs.Positions.{first_at}
use Rattle.sheet_edits.proofs.Entries.{of_rows}
use Rattle.sheet_edits.proofs.Verdicts.{rows_removed}
use Rattle.sheet_edits.proofs.sheet.Sheet.take_out.Goals as goal

pub withdraw-requires-clause-standing : goal.withdraw-requires-clause-standing
withdraw-requires-clause-standing c =
    let rows = c.args.self.now.rows in
    let n = c.args.name.now in
    subst (λ (rows : List Row). IsStanding (of_rows rows)) (sym (rows_removed rows n c.args.at (first_at (is_named n) rows c.args.at c.requires.there))) c.requires.standing

pub returns-clause-new : goal.returns-clause-new
returns-clause-new c =
    let rows = c.args.self.now.rows in
    let n = c.args.name.now in
    ap of_rows (c.withdraw.ensures.new ∙ rows_removed rows n c.args.at (first_at (is_named n) rows c.args.at c.requires.there))
