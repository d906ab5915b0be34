-- How many spans the evaluation of a formula makes at most.
use Rattle.std.specs.Prelude.{ℕ, ◌+◌, ◌*◌}
use Rattle.fixed_interval.specs.Powers.{steps_of_power}
use Rattle.formula_ast.specs.Trees.{Tree, Number, Variable, Opposite, Joined, Raised, nodes}

-- one for each number and operation, and for a power as many as it takes; a name's span is there
abbrev pub value_cost : Tree → ℕ
value_cost (Number q) = 1
value_cost (Variable n) = 0
value_cost (Opposite a) = value_cost a + 1
value_cost (Joined s a b) = value_cost a + value_cost b + 1
value_cost (Raised a e) = value_cost a + steps_of_power e

-- value and derivative in one pass: twelve for each node
abbrev pub partial_cost : Tree → ℕ
partial_cost f = 12 * nodes f
