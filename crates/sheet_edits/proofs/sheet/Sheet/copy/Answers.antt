use Rattle.std.proofs.Common.{rules, List, ◌∙◌, ap, sym, subst}
use Rattle.sheet_rows.specs.Rows.{Row, row_of}
use Rattle.sheet_rows.specs.Sheets.{IsStanding}
use Rattle.sheet_edits.proofs.Entries.{of_rows, copied_rows, copied_names}
use Rattle.sheet_edits.proofs.sheet.Sheet.copy.Goals as goal

pub invariant_of-result : goal.invariant_of-result
invariant_of-result c =
    let es = c.self.inside.rows.entries in
    record {
      names =
          copied_names (λ r. row_of r.value) _ _ (search rules) (search rules) es c.in_ok-clone.field-0.entries c.in_ok-clone.ensures.cases
          c.self.invariant.names;
      standing =
          subst (λ (rows : List Row). IsStanding (of_rows rows))
          (sym (copied_rows (λ r. row_of r.value) _ _ (search rules) (search rules) es c.in_ok-clone.field-0.entries c.in_ok-clone.ensures.cases))
          c.self.invariant.standing;
    }

pub returns : goal.returns
returns c =
    ap of_rows (copied_rows (λ r. row_of r.value) _ _ (search rules) (search rules) c.self.inside.rows.entries c.in_ok-clone.field-0.entries c.in_ok-clone.ensures.cases)
    ∙ c.self.view_is
