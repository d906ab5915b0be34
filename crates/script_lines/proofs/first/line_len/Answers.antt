use Rattle.script_lines.proofs.LineParts.{line_found, line_within, line_fed, no_line_found}
use Rattle.script_lines.proofs.first.line_len.Goals as goal

pub returns-clause-more : goal.returns-clause-more
returns-clause-more c = line_found c.args.text.now c.memchr.result c.memchr.ensures

pub returns-clause-within : goal.returns-clause-within
returns-clause-within c = line_within c.args.text.now c.memchr.result c.memchr.ensures

pub returns-clause-feed : goal.returns-clause-feed
returns-clause-feed c = line_fed c.args.text.now c.memchr.result c.memchr.ensures

pub returns-clause-none : goal.returns-clause-none
returns-clause-none c = no_line_found c.args.text.now c.memchr.result c.memchr.ensures
