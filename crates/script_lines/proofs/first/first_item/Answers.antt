use Rattle.std.proofs.Common.{sym, ◌∙◌, ap}
use Rattle.script_lines.specs.Blocks.{opens_block}
use Rattle.script_lines.proofs.ItemSteps.{long_line, plain_line, opening_line, whole_block, none_whole}
use Rattle.script_lines.proofs.first.first_item.Goals as goal

pub returns-then-is_long-clause-some : goal.returns-then-is_long-clause-some
returns-then-is_long-clause-some c = long_line c.args.text.now c.in-Some.len c.in-Some.ensures.more (sym c.is_long.ensures ∙ c.if-is_long.true)

pub returns-then-not-opens_block-clause-some : goal.returns-then-not-opens_block-clause-some
returns-then-not-opens_block-clause-some c =
    rw (c.in_ok-from_slice.ensures, c.without_return-line.ensures)
    (plain_line c.args.text.now c.in-Some.len c.in-Some.ensures.more (sym c.is_long.ensures ∙ c.if-is_long.false)
    (ap opens_block (sym c.without_return-line.ensures) ∙ sym c.if-not-opens_block.ensures))

pub returns-in_default-end-clause-none : goal.returns-in_default-end-clause-none
returns-in_default-end-clause-none c =
    let lines = c.block_lines-lines in
    none_whole c.without_return-line.result.now c.args.text.now c.after-rest.result.now lines.result.len lines.result.end c.in_default-end.is
    (rw (c.after-rest.ensures.is, c.without_return-line.ensures)
    (opening_line c.args.text.now c.in-Some.len c.in-Some.ensures.more (sym c.is_long.ensures ∙ c.if-is_long.false)
    (ap opens_block (sym c.without_return-line.ensures) ∙ sym c.if-not-opens_block.ensures)))
    lines.ensures.open lines.ensures.last

pub returns-clause-some : goal.returns-clause-some
returns-clause-some c =
    let lines = c.block_lines-lines in
    whole_block c.without_return-line.result.now c.args.text.now c.after-rest.result.now c.in-Some.len lines.result.len c.in-Some-end.end
    lines.result.end _ c.in-Some-end.is c.after-rest.ensures.is c.in_ok-item.ensures
    (rw (c.after-rest.ensures.is, c.without_return-line.ensures)
    (opening_line c.args.text.now c.in-Some.len c.in-Some.ensures.more (sym c.is_long.ensures ∙ c.if-is_long.false)
    (ap opens_block (sym c.without_return-line.ensures) ∙ sym c.if-not-opens_block.ensures)))
    lines.ensures.ended
