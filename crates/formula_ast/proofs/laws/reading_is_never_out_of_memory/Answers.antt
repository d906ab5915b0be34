use Rattle.formula_ast.proofs.NoMemory.{never_memory}
use Rattle.formula_ast.proofs.laws.reading_is_never_out_of_memory.Goals as goal

pub returns : goal.returns
returns c = never_memory
