use Rattle.std.proofs.Common.{arith}
use Rattle.formula_ast.proofs.NameBytes.{plain_short}
use Rattle.formula_ast.proofs.name.Name.plain.Goals as goal

pub from_bytes-requires : goal.from_bytes-requires
from_bytes-requires c = omega (arith, plain_short c.args.text.now (cc))
