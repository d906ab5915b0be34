use Rattle.std.proofs.Common.{length}
use Rattle.formula_ast.specs.States.{stage_of}
use Rattle.formula_ast.proofs.ReadLoop.{IsAt}
use Rattle.formula_ast.proofs.read.read_whole.Given as goal

abbrev pub invariant-loop-rest : goal.invariant-loop-rest
invariant-loop-rest l = IsAt l.text l.rest (stage_of l.state l.outer.items) l.nodes l.end

abbrev pub decreases-loop-rest : goal.decreases-loop-rest
decreases-loop-rest l = length l.rest
