use Rattle.std.proofs.Common.{List, ◌∙◌, ap, sym, subst}
use Rattle.std.specs.Prelude.{slice_get, remove}
use Rattle.sheet_rows.specs.Rows.{Row, Sheet, row_of}
use Rattle.sheet_rows.specs.Sheets.{IsStanding}
use Rattle.sheet_edits.proofs.Entries.{of_rows, taken, taken_names, entry_at}
use Rattle.sheet_edits.proofs.sheet.Sheet.withdraw.Goals as goal

pub invariant_of-self : goal.invariant_of-self
invariant_of-self c =
    let es = c.self.inside.rows.entries in
    let rows_are = ap (λ (s : Sheet). s.rows) c.self.view_is in
    record {
      names = rw (c.shift_remove_index.ensures.entries) (taken_names (λ r. row_of r.value) es c.args.at c.self.invariant.names);
      standing =
          rw (c.shift_remove_index.ensures.entries)
          (subst (λ (rows : List Row). IsStanding (of_rows rows))
          (sym (taken (λ r. row_of r.value) (λ e. row_of e.1.value) es c.args.at ∙ ap (λ (rows : List Row). remove rows c.args.at) rows_are))
          c.requires.standing);
    }

pub returns-clause-old : goal.returns-clause-old
returns-clause-old c =
    let rows_are = ap (λ (s : Sheet). s.rows) c.self.view_is in
    ap (λ (rows : List Row). slice_get rows c.args.at) (sym rows_are)
    ∙ entry_at (λ r. row_of r.value) c.self.inside.rows.entries c.args.at c.unwrap.result (sym c.shift_remove_index.ensures.entry ∙ c.unwrap.ensures)

pub returns-clause-new : goal.returns-clause-new
returns-clause-new c =
    let rows_are = ap (λ (s : Sheet). s.rows) c.self.view_is in
    rw (c.shift_remove_index.ensures.entries)
    (taken (λ r. row_of r.value) (λ e. row_of e.1.value) c.self.inside.rows.entries c.args.at ∙ ap (λ (rows : List Row). remove rows c.args.at) rows_are)
