-- The answer of a budget goes on from what the law of propagation needs of a quantity.
use Rattle.std.specs.Prelude.{◌≡◌, ℕ, List, Result, Ok}
use Rattle.std.specs.Option.{ok_or}
use Rattle.std.specs.Result.{IsErrAnd}
use Rattle.std.proofs.Common.{◌∙◌, subst}
use Rattle.fixed_interval.specs.Interval.{Interval}
use Rattle.covariance.specs.Gradients.{Spans, Gradient}
use Rattle.covariance.specs.Groups.{Group}
use Rattle.budget_table.specs.Budgets.{budget_lines}
use Rattle.budget_table.specs.declared.line.BudgetLine.{BudgetLine}
use Rattle.budget_table.specs.declared.part.BudgetInput.{BudgetInput}
use Rattle.budget_table.specs.declared.part.GroupPart.{GroupPart}
use Rattle.sheet_rows.specs.Rows.{Sheet}
use Rattle.sheet_rows.specs.Sheets.{IsStanding}
use Rattle.answers.specs.declared.reply.Answer.{Answer}
use Rattle.answers.specs.declared.reply.Answer.TheVariants.{Budget}
use Rattle.edit_session.specs.Replies.{Found, and_then, in_range, value_in, variance_in, inputs_in, parts_in, budget_in, answer_of_one}
use Rattle.edit_session.specs.Asking.{StopsAt, Finds, IsGradientIn, AreGroupsIn, IsOfOne}
use Rattle.edit_session.specs.declared.stop.Stop.{Stop as CodeStop}
use Rattle.edit_session.specs.declared.stop.Stop.TheVariants.{OutOfMemory as NoMemory}
use Rattle.edit_session.specs.declared.asked.OfOne.{OfOne}
use Rattle.edit_session.proofs.Found.{finds_on, stops_with, stops_empty}
use Rattle.edit_session.proofs.Needed.{gradient_by, finds_one}

-- what the walk over a sheet that is asked has found of y: a, b and d are the sheet before each step
pub one_is : (sheet a b d : Sheet) (y : List ℕ) (value : Interval) (g : Gradient) (gs : List (Group ℕ)) → a ≡ sheet → b ≡ a → d ≡ b → IsStanding d
    → value_in a y ≡ Ok value → IsGradientIn b y g → AreGroupsIn d gs → IsOfOne sheet y (record { value = value; gradient = g; groups = gs })
one_is sheet a b d y value g gs e f k standing has_value has_gradient has_groups = record {
  standing = subst IsStanding (k ∙ f ∙ e) standing;
  value = subst (λ s. value_in s y ≡ Ok value) e has_value;
  gradient = subst (λ s. IsGradientIn s y g) (f ∙ e) has_gradient;
  groups = subst (λ s. AreGroupsIn s gs) (k ∙ f ∙ e) has_groups;
}

pub inputs_still : (sheet d : Sheet) (y : List ℕ) (inputs : List BudgetInput) → d ≡ sheet → inputs_in d (gradient_by d y) ≡ Ok inputs → inputs_in sheet (gradient_by sheet y) ≡ Ok inputs
inputs_still sheet d y inputs e h = subst (λ s. inputs_in s (gradient_by s y) ≡ Ok inputs) e h

pub no_inputs_still : (sheet d : Sheet) (y : List ℕ) (stop : CodeStop) → d ≡ sheet → StopsAt stop (inputs_in d (gradient_by d y)) → StopsAt stop (inputs_in sheet (gradient_by sheet y))
no_inputs_still sheet d y stop e h = subst (λ s. StopsAt stop (inputs_in s (gradient_by s y))) e h

module _ (sheet : Sheet) (y : List ℕ) (one : OfOne) (is : IsOfOne sheet y one) (r : Result Answer CodeStop) where
  abbrev dy : Spans (List ℕ)
  dy = gradient_by sheet y

  abbrev by_lines : Interval → List BudgetInput → List GroupPart → Found Answer
  by_lines v inputs parts = and_then (in_range (ok_or (budget_lines inputs parts) (record {}))) (λ lines. Ok (Budget lines y v))

  abbrev by_parts : Interval → List BudgetInput → Found Answer
  by_parts v inputs = and_then (parts_in sheet dy) (λ parts. by_lines v inputs parts)

  abbrev by_inputs : Interval → Found Answer
  by_inputs v = and_then (inputs_in sheet dy) (λ inputs. by_parts v inputs)

  found : Finds r (and_then (variance_in sheet dy) by_inputs) → Finds r (answer_of_one sheet y (λ value dy. budget_in sheet y dy))
  found h = finds_one sheet y one is (λ value dy. budget_in sheet y dy) r h

  pub without_groups : IsErrAnd r (λ s. s ≡ NoMemory) → Finds r (answer_of_one sheet y (λ value dy. budget_in sheet y dy))
  without_groups h = stops_empty r h _

  module _ (stop : CodeStop) (h : IsErrAnd r (λ s. s ≡ stop)) where
    pub without_variance : StopsAt stop (variance_in sheet dy) → Finds r (answer_of_one sheet y (λ value dy. budget_in sheet y dy))
    without_variance k = found (stops_with r stop h (variance_in sheet dy) by_inputs k)

    pub without_inputs : (v : Interval) → variance_in sheet dy ≡ Ok v → StopsAt stop (inputs_in sheet dy) → Finds r (answer_of_one sheet y (λ value dy. budget_in sheet y dy))
    without_inputs v e k =
        found (finds_on r (variance_in sheet dy) v by_inputs e (stops_with r stop h (inputs_in sheet dy) (λ inputs. by_parts v inputs) k))

    pub without_parts : (v : Interval) (inputs : List BudgetInput) → variance_in sheet dy ≡ Ok v → inputs_in sheet dy ≡ Ok inputs → StopsAt stop (parts_in sheet dy)
        → Finds r (answer_of_one sheet y (λ value dy. budget_in sheet y dy))
    without_parts v inputs e f k =
        found
        (finds_on r (variance_in sheet dy) v by_inputs e
        (finds_on r (inputs_in sheet dy) inputs (λ inputs. by_parts v inputs) f (stops_with r stop h (parts_in sheet dy) (λ parts. by_lines v inputs parts) k)))

    pub without_lines : (v : Interval) (inputs : List BudgetInput) (parts : List GroupPart) → variance_in sheet dy ≡ Ok v → inputs_in sheet dy ≡ Ok inputs
        → parts_in sheet dy ≡ Ok parts → StopsAt stop (in_range (ok_or (budget_lines inputs parts) (record {})))
        → Finds r (answer_of_one sheet y (λ value dy. budget_in sheet y dy))
    without_lines v inputs parts e f g k =
        found
        (finds_on r (variance_in sheet dy) v by_inputs e
        (finds_on r (inputs_in sheet dy) inputs (λ inputs. by_parts v inputs) f
        (finds_on r (parts_in sheet dy) parts (λ parts. by_lines v inputs parts) g
        (stops_with r stop h (in_range (ok_or (budget_lines inputs parts) (record {}))) (λ lines. Ok (Budget lines y v)) k))))

  pub with_lines : (v : Interval) (inputs : List BudgetInput) (parts : List GroupPart) (lines : List BudgetLine) → variance_in sheet dy ≡ Ok v
      → inputs_in sheet dy ≡ Ok inputs → parts_in sheet dy ≡ Ok parts → in_range (ok_or (budget_lines inputs parts) (record {})) ≡ Ok lines
      → Finds r (Ok (Budget lines y v)) → Finds r (answer_of_one sheet y (λ value dy. budget_in sheet y dy))
  with_lines v inputs parts lines e f g k h =
      found
      (finds_on r (variance_in sheet dy) v by_inputs e
      (finds_on r (inputs_in sheet dy) inputs (λ inputs. by_parts v inputs) f
      (finds_on r (parts_in sheet dy) parts (λ parts. by_lines v inputs parts) g
      (finds_on r (in_range (ok_or (budget_lines inputs parts) (record {}))) lines (λ lines. Ok (Budget lines y v)) k h))))
