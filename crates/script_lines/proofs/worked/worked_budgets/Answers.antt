use Rattle.std.proofs.Common.{refl}
use Rattle.std.specs.Fmt.{digits}
use Rattle.script_lines.proofs.worked.worked_budgets.Goals as goal

pub returns-clause-lines : goal.returns-clause-lines
unfolding digits
returns-clause-lines c = refl

pub returns-clause-no_lines : goal.returns-clause-no_lines
unfolding digits
returns-clause-no_lines c = refl
