-- The budget of a quantity over spans: what each of its inputs, and each group of them, brings to its variance. Which
-- operations are done, and in which order, is our rule.
use Rattle.std.specs.Prelude.{List, [], ◌∷◌, ◌++◌, map, Option, None, Some}
use Rattle.std.specs.Option.{option_map}
use Rattle.exact_fraction.specs.Number.{ℚ, ◌*ℚ◌}
use Rattle.fixed_interval.specs.Interval.{Interval, Encloses}
use Rattle.fixed_interval.specs.Rules.{product_span, square_span}
use Rattle.fixed_interval.specs.Sums.{both}
use Rattle.budget_table.specs.declared.part.BudgetInput.{BudgetInput}
use Rattle.budget_table.specs.declared.part.GroupPart.{GroupPart}
use Rattle.budget_table.specs.declared.line.BudgetLine.{BudgetLine}
use Rattle.budget_table.specs.declared.line.BudgetLine.TheVariants.{Input, Group}

-- what an input with the sensitivity c and the variance v brings to the variance: |c u|² for v = u² (JCGM 100:2008, 5.1.3)
abbrev pub contribution : ℚ → ℚ → ℚ
contribution c v = (c *ℚ c) *ℚ v

-- the same over spans; none where an operation leaves the range of bounds
abbrev pub own_span : BudgetInput → Option Interval
own_span i = both (square_span i.sens) (Some i.variance) product_span

-- ---- lines
abbrev pub input_line : BudgetInput → Option BudgetLine
input_line i = option_map (λ own. Input i.name i.value i.variance i.sens own) (own_span i)

abbrev pub group_line : GroupPart → BudgetLine
group_line g = Group g.name g.variance

-- a line before others, where all are there
abbrev pub followed_by : Option BudgetLine → Option (List BudgetLine) → Option (List BudgetLine)
followed_by None o = None
followed_by (Some line) o = option_map (λ lines. line ∷ lines) o

-- one for each input, in order
abbrev pub input_lines : List BudgetInput → Option (List BudgetLine)
input_lines [] = Some []
input_lines (i ∷ is) = followed_by (input_line i) (input_lines is)

-- these, and then one for each group, in order
unfoldable pub budget_lines : List BudgetInput → List GroupPart → Option (List BudgetLine)
budget_lines inputs groups = option_map (λ lines. lines ++ map group_line groups) (input_lines inputs)

-- ---- what a line encloses
-- for every exact sensitivity and variance of the input in the line's spans, own encloses what the input brings
abbrev pub EnclosesOwn : BudgetLine → Type 0
EnclosesOwn (Input name value variance sens own) =
    (c v : ℚ) → Encloses sens c → Encloses variance v → Encloses own (contribution c v)
EnclosesOwn (Group name variance) = Unit {0}
