use Rattle.std.proofs.Common.{List, ◌∷◌, [], ◌++◌, ◌∙◌, ap, sym, subst}
use Rattle.sheet_rows.specs.Rows.{Row, Sheet, row_of}
use Rattle.sheet_rows.specs.Sheets.{IsStanding}
use Rattle.sheet_edits.proofs.Entries.{of_rows, place, put_rows, put_names}
use Rattle.sheet_edits.proofs.sheet.Sheet.push.Goals as goal

pub invariant_of-self-2 : goal.invariant_of-self-2
invariant_of-self-2 c =
    let es = c.self.inside.rows.entries in
    let rows_are = ap (λ (s : Sheet). s.rows) c.self.view_is in
    let none = place (λ r. row_of r.value) es c.args.name c.self.invariant.names ∙ rw (rows_are) c.requires.new in
    record {
      names = rw (c.in_ok-insert.ensures.entries) (put_names (λ r. row_of r.value) es c.args.name c.args.row none c.requires.named c.self.invariant.names);
      standing =
          rw (c.in_ok-insert.ensures.entries)
          (subst (λ (rows : List Row). IsStanding (of_rows rows))
          (sym (put_rows (λ r. row_of r.value) es c.args.name c.args.row none ∙ ap (λ (rows : List Row). rows ++ row_of c.args.row.value ∷ []) rows_are))
          c.requires.standing);
    }

pub returns-clause-ok : goal.returns-clause-ok
returns-clause-ok c =
    let es = c.self.inside.rows.entries in
    let rows_are = ap (λ (s : Sheet). s.rows) c.self.view_is in
    let none = place (λ r. row_of r.value) es c.args.name c.self.invariant.names ∙ rw (rows_are) c.requires.new in
    rw (c.in_ok-insert.ensures.entries)
    (ap of_rows (put_rows (λ r. row_of r.value) es c.args.name c.args.row none ∙ ap (λ (rows : List Row). rows ++ row_of c.args.row.value ∷ []) rows_are))
