use Rattle.formula_ast.proofs.NameBytes.{name_short}
use Rattle.formula_ast.proofs.name.Name.new.Goals as goal

pub from_bytes-requires : goal.from_bytes-requires
from_bytes-requires c = name_short c.args.text.now (cc)
