use Rattle.formula_ast.proofs.NameBytes.{padded_prefix}
use Rattle.formula_ast.proofs.name.Name.from_bytes.Goals as goal

pub invariant_of-result : goal.invariant_of-result
invariant_of-result c = padded_prefix c.args.bytes.now c.copy_from_slice.new.self c.requires c.copy_from_slice.ensures.after
