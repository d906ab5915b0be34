use Rattle.sheet_rows.specs.Rows.{row_of}
use Rattle.sheet_edits.proofs.Entries.{values}
use Rattle.sheet_edits.proofs.sheet.Sheet.rows.Goals as goal

pub returns-clause-rows : goal.returns-clause-rows
returns-clause-rows c = rw (← c.self.view_is, c.as_slice.ensures, c.values.ensures.rest) (values (λ r. row_of r.value) c.self.inside.rows.entries)

pub returns-clause-standing : goal.returns-clause-standing
returns-clause-standing c = rw (← c.self.view_is) c.self.invariant.standing
