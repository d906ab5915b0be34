-- What the code's formulas are: their trees.
use Rattle.formula_ast.specs.Trees.{Tree, Number, Variable, Opposite, Joined, Raised}
use Rattle.formula_ast.specs.declared.token.Sign.TheVariants.{Plus, Minus, Times, Over}
use Rattle.formula_ast.specs.declared.formula.Formula.{Formula}
use Rattle.formula_ast.specs.declared.formula.Formula.TheVariants.{Num, Var, Neg', Add', Sub', Mul', Div', Pow'}

abbrev pub tree_of : Formula → Tree
tree_of (Num q) = Number q
tree_of (Var n) = Variable n
tree_of (Neg' p a) = Opposite (tree_of a)
tree_of (Add' p a q b) = Joined Plus (tree_of a) (tree_of b)
tree_of (Sub' p a q b) = Joined Minus (tree_of a) (tree_of b)
tree_of (Mul' p a q b) = Joined Times (tree_of a) (tree_of b)
tree_of (Div' p a q b) = Joined Over (tree_of a) (tree_of b)
tree_of (Pow' p a k) = Raised (tree_of a) k
