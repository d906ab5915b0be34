use Rattle.std.proofs.Common.{◌∙◌}
use Rattle.line_text.specs.Characters.{hash}
use Rattle.line_text.proofs.Searches.{before_first}
use Rattle.line_text.proofs.blanks.comment_start.Goals as goal

pub returns-clause-is : goal.returns-clause-is
returns-clause-is c = c.unwrap_or.ensures ∙ before_first hash c.args.line.now c.memchr.result c.memchr.ensures
