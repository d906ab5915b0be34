use Rattle.row_text.specs.Tables.{table_read}
use Rattle.row_text.proofs.LineEnds.{table_after_end}
use Rattle.row_text.proofs.read_joint.read_table.Goals as goal

pub returns-then-from-text-clause-exact : goal.returns-then-from-text-clause-exact
unfolding table_read
returns-then-from-text-clause-exact c =
    λ memory. rw (← c.written_part-text.ensures)
    (table_after_end c.written_part-text.result.now c.args.from c.args.block.now c.if-from-text.true)

pub returns-clause-exact : goal.returns-clause-exact
unfolding table_read
returns-clause-exact c =
    rw (← c.written_part-text.ensures) (rw c.from.ensures at c.read_table_words.ensures.exact)
