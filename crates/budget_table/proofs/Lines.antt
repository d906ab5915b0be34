-- What holds of the line of each input and of each group holds of each line of a budget.
use Rattle.std.specs.Prelude.{◌≡◌, ℕ, ◌+◌, ◌<◌, List, [], ◌∷◌, ◌++◌, map, drop, get_or, length, All, Option, None, Some, IfSome, refl}
use Rattle.std.specs.Option.{option_map}
use Rattle.std.proofs.Common.{sym, ◌∙◌, ap, subst}
use Rattle.std.proofs.lemmas.Option.{same_Some, none-some}
use Rattle.std.proofs.lemmas.List.{append_assoc, at_drop_more}
use Rattle.std.proofs.lemmas.List.Elements.{All-nil, All-cons, All-head, All-tail, All-append, All-map}
use Rattle.exact_fraction.specs.Number.{ℚ, ◌*ℚ◌}
use Rattle.fixed_interval.specs.Interval.{Interval, Encloses}
use Rattle.fixed_interval.specs.Rules.{square_span}
use Rattle.fixed_interval.specs.Sums.{Holds}
use Rattle.fixed_interval.proofs.Inclusions.{square_span_encloses}
use Rattle.fixed_interval.proofs.Sums.{some_holds, product_holds}
use Rattle.budget_table.specs.declared.part.BudgetInput.{BudgetInput}
use Rattle.budget_table.specs.declared.part.GroupPart.{GroupPart}
use Rattle.budget_table.specs.declared.line.BudgetLine.{BudgetLine}
use Rattle.budget_table.specs.declared.line.BudgetLine.TheVariants.{Input}
use Rattle.budget_table.specs.Budgets.{EnclosesOwn, budget_lines, contribution, followed_by, group_line, input_line, input_lines, own_span}

-- ---- what an input brings
pub own_holds : (i : BudgetInput) (c v : ℚ) → Encloses i.sens c → Encloses i.variance v → Holds (own_span i) (contribution c v)
own_holds i c v h k =
    product_holds (square_span i.sens) (Some i.variance) (c *ℚ c) v
    (some_holds (square_span i.sens) (c *ℚ c) (λ s e. square_span_encloses i.sens s e c h)) k

line_encloses : (i : BudgetInput) → IfSome (input_line i) EnclosesOwn
line_encloses i = by (own_span i) (λ c v h k. own_holds i c v h k) where
  by : (o : Option Interval) → ((c v : ℚ) → Encloses i.sens c → Encloses i.variance v → Holds o (contribution c v))
      → IfSome (option_map (λ own. Input i.name i.value i.variance i.sens own) o) EnclosesOwn
  by None h = tt
  by (Some own) h = h

-- ---- all lines
all_inputs : (P : BudgetLine → Type 0) (is : List BudgetInput) → All (λ i. IfSome (input_line i) P) is → IfSome (input_lines is) (All P)
all_inputs P [] h = All-nil P
all_inputs P (i ∷ is) h = by (input_line i) (input_lines is) (All-head Q i is h) (all_inputs P is (All-tail Q i is h)) where
  Q : BudgetInput → Type 0
  Q j = IfSome (input_line j) P

  by : (o : Option BudgetLine) (rest : Option (List BudgetLine)) → IfSome o P → IfSome rest (All P) → IfSome (followed_by o rest) (All P)
  by None rest p h = tt
  by (Some line) None p h = tt
  by (Some line) (Some lines) p h = All-cons P line lines p h

pub all_lines : (P : BudgetLine → Type 0) (is : List BudgetInput) (gs : List GroupPart) → All (λ i. IfSome (input_line i) P) is
    → All (λ g. P (group_line g)) gs → IfSome (budget_lines is gs) (All P)
unfolding budget_lines
all_lines P is gs h k = by (input_lines is) (all_inputs P is h) where
  by : (o : Option (List BudgetLine)) → IfSome o (All P) → IfSome (option_map (λ lines. lines ++ map group_line gs) o) (All P)
  by None h = tt
  by (Some lines) h = All-append P lines (map group_line gs) h (All-map P group_line gs k)

pub lines_enclose : (is : List BudgetInput) (gs : List GroupPart) → IfSome (budget_lines is gs) (All EnclosesOwn)
lines_enclose is gs = all_lines EnclosesOwn is gs (λ k d lt. line_encloses _) (λ k d lt. tt)

-- ---- loops
-- a line more has been found of the inputs that are left
pub lines-next : (lines : List BudgetLine) (line : BudgetLine) (is : List BudgetInput) (k : ℕ) (i : BudgetInput) → k < length is
    → get_or is k i ≡ i → input_line i ≡ Some line
    → option_map (λ more. (lines ++ line ∷ []) ++ more) (input_lines (drop (k + 1) is)) ≡ option_map (λ more. lines ++ more) (input_lines (drop k is))
lines-next lines line is k i h e f =
    sym (at_drop_more (λ js. put (input_lines js)) is k i h
    ∙ ap (λ j. put (input_lines (j ∷ drop (k + 1) is))) e
    ∙ ap (λ o. put (followed_by o (input_lines (drop (k + 1) is)))) f
    ∙ after (input_lines (drop (k + 1) is))) where
      put : Option (List BudgetLine) → Option (List BudgetLine)
      put o = option_map (λ more. lines ++ more) o

      after : (o : Option (List BudgetLine)) → put (followed_by (Some line) o) ≡ option_map (λ more. (lines ++ line ∷ []) ++ more) o
      after None = refl
      after (Some more) = ap Some (sym (append_assoc lines (line ∷ []) more))

-- there is no line of the next input
pub lines-missing : (lines : List BudgetLine) (is : List BudgetInput) (k : ℕ) (i : BudgetInput) → k < length is
    → get_or is k i ≡ i → input_line i ≡ None → option_map (λ more. lines ++ more) (input_lines (drop k is)) ≡ None
lines-missing lines is k i h e f =
    at_drop_more (λ js. option_map (λ more. lines ++ more) (input_lines js)) is k i h
    ∙ ap (λ j. option_map (λ more. lines ++ more) (input_lines (j ∷ drop (k + 1) is))) e
    ∙ ap (λ o. option_map (λ more. lines ++ more) (followed_by o (input_lines (drop (k + 1) is)))) f

-- those of the inputs, put behind none, and those of the groups behind these
pub lines_found : (is : List BudgetInput) (gs : List GroupPart) (start first lines : List BudgetLine) → start ≡ []
    → option_map (λ more. start ++ more) (input_lines is) ≡ Some first → lines ≡ first ++ map group_line gs → budget_lines is gs ≡ Some lines
unfolding budget_lines
lines_found is gs start first lines e f h = by (input_lines is) (subst (λ s. option_map (λ more. s ++ more) (input_lines is) ≡ Some first) e f) where
  by : (o : Option (List BudgetLine)) → option_map (λ more. more) o ≡ Some first → option_map (λ ls. ls ++ map group_line gs) o ≡ Some lines
  by None k = absurd (none-some first k)
  by (Some ls) k = ap (λ ks. Some (ks ++ map group_line gs)) (same_Some ls first k) ∙ ap Some (sym h)
