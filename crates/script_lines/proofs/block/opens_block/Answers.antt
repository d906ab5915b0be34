use Rattle.std.proofs.Common.{ap, sym, ◌∙◌}
use Rattle.line_text.specs.Words.{words_from, words_left}
use Rattle.script_lines.specs.Blocks.{words_open, opens_block}
use Rattle.script_lines.proofs.OpeningLines.{may_open, begins_otherwise}
use Rattle.script_lines.proofs.block.opens_block.Goals as goal

pub returns-then-not-begins_to_open : goal.returns-then-not-begins_to_open
returns-then-not-begins_to_open c =
    begins_otherwise _ _ (may_open c.args.line.now c.skip_blanks.result.now c.skip_blanks.ensures.is)
    (sym c.begins_to_open.ensures ∙ c.if-not-begins_to_open.true)

pub returns : goal.returns
unfolding opens_block
returns c =
    c.words_open.ensures ∙ ap (λ words. words_open (words_left words)) c.from.ensures
    ∙ ap (λ text. words_open (words_from text 0)) c.written_part.ensures
