use Rattle.std.proofs.Common.{◌∙◌}
use Rattle.sheet_rows.specs.Rows.{row_of}
use Rattle.sheet_edits.proofs.Entries.{place}
use Rattle.sheet_edits.proofs.sheet.Sheet.place_of.Goals as goal

pub returns : goal.returns
returns c =
    rw (← c.self.view_is) (c.get_index_of.ensures.index ∙ place (λ r. row_of r.value) c.self.inside.rows.entries c.args.name.now c.self.invariant.names)
