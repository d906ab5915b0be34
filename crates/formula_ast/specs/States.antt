-- The stage of the reading that the code's state and its list of open levels stand for.
use Rattle.std.specs.Prelude.{List, [], ◌∷◌, ◌++◌, Option, None, Some}
use Rattle.formula_ast.specs.Trees.{Tree}
use Rattle.formula_ast.specs.Machine.{Waiting, Stage, AtOperand, AtAtom, AtEnd, AtExponent}
use Rattle.formula_ast.specs.Views.{tree_of}
use Rattle.formula_ast.specs.declared.token.Sign.{Sign}
use Rattle.formula_ast.specs.declared.machine.Left.{Left}
use Rattle.formula_ast.specs.declared.machine.Level.{Level}
use Rattle.formula_ast.specs.declared.machine.State.{State}
use Rattle.formula_ast.specs.declared.machine.State.TheVariants.{Operand, Atom, End, Exponent}

abbrev pub left_of : Option Left → Option (Tree × Sign)
left_of None = None
left_of (Some l) = Some (tree_of l.operand.value, l.sign)

abbrev pub waiting_of : Level → Waiting Tree
waiting_of l = record { added = left_of l.added; multiplied = left_of l.multiplied; minuses = l.minuses; base = l.base }

-- what waits outside, the innermost level first; the code keeps it last
abbrev pub outside : List Level → List (Waiting Tree)
outside [] = []
outside (l ∷ ls) = outside ls ++ waiting_of l ∷ []

abbrev pub stage_on : State → List (Waiting Tree) → Stage Tree
stage_on (Operand l) o = AtOperand (waiting_of l) o
stage_on (Atom l x) o = AtAtom (waiting_of l) (tree_of x.value) o
stage_on (End b left x) o = AtEnd b (left_of left) (tree_of x.value) o
stage_on (Exponent l x minus) o = AtExponent (waiting_of l) (tree_of x.value) minus o

abbrev pub stage_of : State → List Level → Stage Tree
stage_of s ls = stage_on s (outside ls)
