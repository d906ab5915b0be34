-- How many operations on spans it takes at most to find the sensitivities of a quantity. This is this project's own
-- rule.
use Rattle.std.specs.Prelude.{ℕ, ◌+◌, ◌*◌, List, length, Option, None, Some, sum_by}
use Rattle.formula_ast.specs.Trees.{names_of}
use Rattle.formula_box.specs.Costs.{partial_cost}
use Rattle.value_cache.specs.Quantities.{Body, Input, Function, Column}
use Rattle.value_cache.specs.Rules.{Bodies}

-- one partial derivative of a row, with the row's values: that of its formula
abbrev pub part_cost : Option (Body ℕ) → ℕ
part_cost None = 0
part_cost (Some (Input estimate)) = 0
part_cost (Some (Function f key)) = partial_cost f
part_cost (Some (Column t column)) = 0

-- what a row brings to one quantity: the partial derivative, a product and a sum
abbrev pub term_cost : Option (Body ℕ) → ℕ
term_cost body = part_cost body + 2

-- how many names a row uses
abbrev pub name_count : Option (Body ℕ) → ℕ
name_count None = 0
name_count (Some (Input estimate)) = 0
name_count (Some (Function f key)) = length (names_of f)
name_count (Some (Column t column)) = 0

-- what a row brings to all that it uses, which it brings by one name at a time
abbrev pub row_cost : Option (Body ℕ) → ℕ
row_cost body = name_count body * term_cost body

-- the sensitivities of a quantity with this cone: one operation for the sensitivity to itself, and what the rows of
-- the cone bring
abbrev pub gradient_cost : Bodies → List ℕ → ℕ
gradient_cost bodies cone = 1 + sum_by (λ m. row_cost (bodies m)) cone
