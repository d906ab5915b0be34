use Rattle.formula_ast.proofs.NestingLimits.{read_within_limits}
use Rattle.formula_ast.proofs.laws.what_spells_within_limits_is_read.Goals as goal

pub returns : goal.returns
returns c = read_within_limits
