use Rattle.std.proofs.Common.{◌≡◌, Err, rules}
use Rattle.script_lines.proofs.LineAnswers.{line_blank, line_fails, line_gives}
use Rattle.script_lines.proofs.read.read_line.Goals as goal

pub returns-in_default-clause-exact : goal.returns-in_default-clause-exact
returns-in_default-clause-exact c = line_blank _ _ _ c.written_part.ensures c.from-words.ensures c.in_default.ensures.steps.1

pub returns-in_err-command-clause-exact : goal.returns-in_err-command-clause-exact
returns-in_err-command-clause-exact c =
    let fault = c.in_err-command.field-0.0 in
    let same : c.from_residual.result ≡ Err fault = search rules in
    rw same (line_fails _ _ _ _ _ _ c.written_part.ensures c.from-words.ensures c.in-Some.ensures.steps c.verb_of.ensures fault
    c.in_err-command.ensures.exact)

pub returns-clause-exact : goal.returns-clause-exact
returns-clause-exact c =
    line_gives _ _ _ _ _ _ c.written_part.ensures c.from-words.ensures c.in-Some.ensures.steps c.verb_of.ensures _ c.in_ok-command.ensures.exact
