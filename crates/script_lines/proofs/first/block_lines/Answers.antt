use Rattle.std.proofs.Common.{length, sym, ◌∙◌, ap, arith}
use Rattle.std.proofs.lemmas.List.{length-drop}
use Rattle.script_lines.proofs.ItemSteps.{left_is, line_inside, line_ends}
use Rattle.script_lines.proofs.first.block_lines.Goals as goal

pub returns-then-ends_block-clause-ended : goal.returns-then-ends_block-clause-ended
returns-then-ends_block-clause-ended c = λ head.
    line_ends head c.args.text.now c.lines.rest.now c.lines.at c.in-Some.len c.lines.invariant.rest (c.lines.invariant.inside head)
    c.in-Some.ensures.more (sym c.ends_block.ensures ∙ c.if-ends_block.true)

pub lines-preserved : goal.lines-preserved
lines-preserved c = record {
  within = omega (arith, c.in-Some.ensures.within, c.lines.invariant.within, ap length c.lines.invariant.rest, length-drop c.lines.at c.args.text.now);
  rest = c.after-rest.ensures.is ∙ left_is c.args.text.now c.lines.rest.now c.lines.at c.in-Some.len c.lines.invariant.rest;
  inside = λ head. line_inside head c.args.text.now c.lines.rest.now c.lines.at c.in-Some.len c.lines.invariant.rest (c.lines.invariant.inside head)
      c.in-Some.ensures.more c.in-Some.ensures.within c.in-Some.ensures.feed (sym c.ends_block.ensures ∙ c.if-ends_block.false);
}
