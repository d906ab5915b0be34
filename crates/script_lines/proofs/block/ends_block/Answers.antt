use Rattle.std.proofs.Common.{drop, ap, ◌∙◌}
use Rattle.script_lines.specs.Blocks.{is_end, ends_block}
use Rattle.script_lines.proofs.block.ends_block.Goals as goal

pub returns : goal.returns
unfolding ends_block
returns c = c.is_end.ensures ∙ ap is_end (c.after.ensures.is ∙ ap (λ n. drop n c.args.line.now) c.padding_len.ensures.is)
