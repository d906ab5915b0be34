use Rattle.std.proofs.Common.{◌∙◌}
use Rattle.sheet_rows.specs.Rows.{row_of, used_names}
use Rattle.sheet_edits.proofs.Mentions.{lost_to_none}
use Rattle.sheet_edits.proofs.users.is_user_of.Goals as goal

pub returns : goal.returns
returns c = c.uses_lost.ensures ∙ lost_to_none (row_of c.args.row.now) (used_names (row_of c.args.other.now))
