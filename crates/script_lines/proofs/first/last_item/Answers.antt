use Rattle.std.proofs.Common.{◌∷◌, [], take, sym, ◌∙◌, ap}
use Rattle.script_lines.specs.Items.{Inside, without_return, block_item, last_items}
use Rattle.script_lines.proofs.ItemSteps.{opened, last_of_block, last_closed, last_unclosed}
use Rattle.script_lines.proofs.first.last_item.Goals as goal

pub returns-then-ends_block-clause-some : goal.returns-then-ends_block-clause-some
returns-then-ends_block-clause-some c =
    let lines = c.block_lines-lines in
    let head = without_return (take c.in-Some.len c.args.text.now) in
    let body = take lines.result.len c.after-rest.result.now in
    last_of_block head c.args.text.now c.after-rest.result.now lines.result.len lines.result.end
    (rw c.after-rest.ensures.is (opened c.args.text.now c.in-Some.len c.in-Some.ensures.more c.requires))
    lines.ensures.ended lines.ensures.open lines.ensures.last c.requires
    ∙ ap (last_items (Inside head body)) (sym c.after.ensures.is)
    ∙ last_closed head body c.after.result.now (sym c.if-ends_block.ensures)
    ∙ ap (λ item. item ∷ []) (ap (λ line. block_item line body) (sym c.without_return-head.ensures) ∙ sym c.in_ok-block_item.ensures)

pub returns-clause-some : goal.returns-clause-some
returns-clause-some c =
    let lines = c.block_lines-lines in
    let head = without_return (take c.in-Some.len c.args.text.now) in
    let body = take lines.result.len c.after-rest.result.now in
    last_of_block head c.args.text.now c.after-rest.result.now lines.result.len lines.result.end
    (rw c.after-rest.ensures.is (opened c.args.text.now c.in-Some.len c.in-Some.ensures.more c.requires))
    lines.ensures.ended lines.ensures.open lines.ensures.last c.requires
    ∙ ap (last_items (Inside head body)) (sym c.after.ensures.is)
    ∙ last_unclosed head body c.after.result.now (sym c.if-ends_block.ensures)
