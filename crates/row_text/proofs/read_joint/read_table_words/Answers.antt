use Rattle.line_text.specs.Words.{words_left}
use Rattle.row_text.specs.Tables.{table_at}
use Rattle.row_text.proofs.RegularRows.{gives_regular, table_regular}
use Rattle.row_text.proofs.read_joint.read_table_words.Goals as goal

pub returns-clause-regular : goal.returns-clause-regular
returns-clause-regular c =
    gives_regular c.read_joint.result (table_at c.args.words.line (words_left c.args.words) c.args.block.now) c.read_joint.ensures.exact
    (table_regular c.args.words.line (words_left c.args.words) c.args.block.now)
