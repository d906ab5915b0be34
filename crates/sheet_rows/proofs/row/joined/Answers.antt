use Rattle.sheet_rows.proofs.Parts.{built}
use Rattle.sheet_rows.proofs.row.joined.Goals as goal

pub returns : goal.returns
returns c = built c.args.table.now c.args.column.now _ _ c.args.text.now _ c.copy_from_slice.ensures.after c.copy_from_slice-2.ensures.after c.requires
