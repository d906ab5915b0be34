use Rattle.std.proofs.Common.{◌≡◌}
use Rattle.formula_ast.specs.Machine.{trees, negated}
use Rattle.formula_ast.specs.Views.{tree_of}
use Rattle.formula_ast.proofs.machine.negated.Given as goal

abbrev pub invariant-loop-left : goal.invariant-loop-left
invariant-loop-left l = negated trees l.left (tree_of l.formula.value) ≡ negated trees l.fn.minuses (tree_of l.fn.operand.value)

abbrev pub decreases-loop-left : goal.decreases-loop-left
decreases-loop-left l = l.left
