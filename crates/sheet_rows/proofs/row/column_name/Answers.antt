use Rattle.std.proofs.Common.{ap, ap₂, ◌∙◌}
use Rattle.sheet_rows.specs.Rows.{column_name}
use Rattle.std.specs.Prelude.{is_some}
use Rattle.sheet_rows.proofs.Parts.{new_there, new_is}
use Rattle.sheet_rows.proofs.row.column_name.Goals as goal

pub unwrap-requires : goal.unwrap-requires
unwrap-requires c = ap is_some (new_there c.joined-whole.result.now _ c.args.table.now c.args.column.now c.new.ensures (c.joined-whole.ensures ∙ ap₂ column_name c.as_bytes.ensures.text c.as_bytes-2.ensures.text) c.requires.table c.requires.column)

pub returns : goal.returns
returns c = new_is c.joined-whole.result.now _ _ c.args.table.now c.args.column.now c.new.ensures c.unwrap.ensures
    (c.joined-whole.ensures ∙ ap₂ column_name c.as_bytes.ensures.text c.as_bytes-2.ensures.text) c.requires.table c.requires.column
