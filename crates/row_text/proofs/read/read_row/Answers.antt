use Rattle.row_text.specs.Reading.{row_read}
use Rattle.row_text.proofs.LineEnds.{after_end}
use Rattle.row_text.proofs.read.read_row.Goals as goal

pub returns-then-from-text-clause-exact : goal.returns-then-from-text-clause-exact
unfolding row_read
returns-then-from-text-clause-exact c =
    λ memory. rw (← c.written_part-text.ensures) (after_end c.written_part-text.result.now c.args.from c.if-from-text.true)

pub returns-clause-exact : goal.returns-clause-exact
unfolding row_read
returns-clause-exact c =
    rw (← c.written_part-text.ensures) (rw c.from.ensures at c.read_row_words.ensures.exact)
