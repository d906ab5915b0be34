use Rattle.std.proofs.Common.{◌≡◌, ◌++◌, length}
use Rattle.script_lines.specs.Items.{items_of, whole_items_of}
use Rattle.edit_session.specs.Live.{state_of}
use Rattle.gum_cli.specs.Script.{replies_to, text_of_replies, out}
use Rattle.gum_cli.proofs.respond.respond.Given as goal

abbrev pub invariant-items : goal.invariant-items
invariant-items g l = l.replies ++ text_of_replies (replies_to (state_of l.session) (items_of l.splitter)) ≡ out l.script

-- one whole line less
abbrev pub decreases-items : goal.decreases-items
decreases-items g l = length (whole_items_of l.splitter)
