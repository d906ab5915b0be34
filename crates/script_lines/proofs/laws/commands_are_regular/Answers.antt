use Rattle.script_lines.proofs.RegularLines.{read_regular}
use Rattle.script_lines.proofs.laws.commands_are_regular.Goals as goal

pub returns : goal.returns
returns c = λ item. read_regular item
