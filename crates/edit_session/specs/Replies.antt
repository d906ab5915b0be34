-- The reply of a sheet to a query. Which refusal, fault or overflow stands in the place of an answer, where several might,
-- is this project's own rule.
use Rattle.std.specs.Prelude.{ℕ, ◌==◌, Bool, if◌then◌else◌, is_some, List, [], ◌∷◌, ◌++◌, Option, None, Some, option_map, Result, Ok, Err, bytes_eq}
use Rattle.std.specs.Option.{ok_or}
use Rattle.exact_law.specs.WrittenRule.{Decision as ExactDecision, Stated, Undecided as UndecidedAt, Pass as ExactPass, ConditionalPass as ExactConditionalPass, ConditionalFail as ExactConditionalFail, Fail as ExactFail}
use Rattle.fixed_interval.specs.Interval.{Interval}
use Rattle.fixed_interval.specs.declared.faults.ArithFault.{ArithFault}
use Rattle.fixed_interval.specs.declared.faults.Overflow.{Overflow}
use Rattle.round_out.specs.Reports.{reported_of, expanded_of}
use Rattle.round_out.specs.Searches.{correlation_of}
use Rattle.round_out.specs.declared.coefficient.CorrSaid.{CorrSaid}
use Rattle.table_g2.specs.Factors.{factor_span}
use Rattle.table_g2.specs.Said.{said}
use Rattle.table_g2.specs.declared.known.Level.{Level}
use Rattle.table_g2.specs.declared.known.Nu.{Nu}
use Rattle.guard_band.specs.Statements.{decision_over}
use Rattle.guard_band.specs.declared.rule.Condition.{Condition}
use Rattle.guard_band.specs.declared.rule.Condition.TheVariants.{Guarded, Inside, Near}
use Rattle.guard_band.specs.declared.rule.Rule.{Rule}
use Rattle.guard_band.specs.declared.rule.Said.{Said as SaidOfRule}
use Rattle.guard_band.specs.declared.rule.Said.TheVariants.{Pass, ConditionalPass, ConditionalFail, Fail, Undecided}
use Rattle.sheet_rows.specs.Rows.{Sheet}
use Rattle.sheet_rows.specs.Sheets.{has_quantity, has_input, has_rule, rule_of}
use Rattle.value_cache.specs.Evaluations.{evaluation_of}
use Rattle.value_cache.specs.declared.evaluation.Evaluation.{Evaluation}
use Rattle.value_cache.specs.declared.evaluation.Evaluation.TheVariants.{Enclosed, Fault}
use Rattle.covariance.specs.Gradients.{Spans, sensitivity}
use Rattle.covariance.specs.Groups.{Group}
use Rattle.covariance.specs.Variances.{group_variance_span, meets, combined_variance_span, combined_covariance_span}
use Rattle.adjoint_pass.specs.Sensitivities.{has_gradient, gradient_of}
use Rattle.eff_dof.specs.GroupParts.{known_degrees_of}
use Rattle.budget_table.specs.Budgets.{budget_lines}
use Rattle.budget_table.specs.declared.part.BudgetInput.{BudgetInput}
use Rattle.budget_table.specs.declared.part.GroupPart.{GroupPart}
use Rattle.sheet_model.specs.Quantities.{quantities}
use Rattle.sheet_model.specs.Groups.{groups}
use Rattle.sheet_model.specs.Budgets.{NamedGroup, variances, named_groups}
use Rattle.sheet_model.specs.declared.variances.InputVariance.{InputVariance}
use Rattle.answers.specs.declared.command.Query.{Query}
use Rattle.answers.specs.declared.command.Query.TheVariants.{Value as AskValue, Variance as AskVariance, Covariance as AskCovariance, Correlation as AskCorrelation, Sensitivity as AskSensitivity, Degrees as AskDegrees, Report as AskReport, Expanded as AskExpanded, Decide as AskDecide, Budget as AskBudget, Dump as AskDump}
use Rattle.answers.specs.declared.fault.AskFault.TheVariants.{NoSuchResult}
use Rattle.answers.specs.declared.reply.Answer.{Answer}
use Rattle.answers.specs.declared.reply.Answer.TheVariants.{Value, Variance, Covariance, Correlation, Sensitivity, Degrees, Report, Expanded, Decision, Budget, Dump, ValueFault, LawOverflow}
use Rattle.answers.specs.declared.reply.Reply.{Reply}
use Rattle.answers.specs.declared.reply.Reply.TheVariants.{Ask, Said}

-- ---- what is found, or what stands in its place
pub data Stop : Type 0 where
  -- no quantity has this name, or no rule, where one is asked for
  Unknown : List ℕ → Stop
  -- the quantity has no span: this fault arose in the row of this name
  Faulted : ArithFault → List ℕ → Stop
  -- an operation that the law of propagation asks for leaves the range of bounds
  OutOfRange : Stop

abbrev pub Found : Type 0 → Type 0
Found A = Result A Stop

-- what is found with the first goes on to the second; what stands in its place stands
abbrev pub and_then : {A B : Type 0} → Found A → (A → Found B) → Found B
and_then (Ok x) next = next x
and_then (Err stop) next = Err stop

abbrev pub in_range : {A : Type 0} → Result A Overflow → Found A
in_range (Ok x) = Ok x
in_range (Err fault) = Err OutOfRange

-- what is found of each is put together
abbrev pub all_found : {A B : Type 0} → (A → Found (List B)) → List A → Found (List B)
all_found f [] = Ok []
all_found f (x ∷ xs) = and_then (f x) (λ ys. and_then (all_found f xs) (λ zs. Ok (ys ++ zs)))

-- ---- what is found of a sheet
abbrev pub value_by : List ℕ → Option (Evaluation (List ℕ)) → Found Interval
value_by y None = Err (Unknown y)
value_by y (Some (Fault fault row)) = Err (Faulted fault row)
value_by y (Some (Enclosed span)) = Ok span

-- the span of a value. Each quantity of a well-formed sheet has an evaluation
abbrev pub value_in : Sheet → List ℕ → Found Interval
value_in sheet y = value_by y (evaluation_of bytes_eq (quantities sheet) y)

-- all sensitivities (JCGM 100:2008, 5.1.3)
abbrev pub gradient_in : Sheet → List ℕ → Found (Spans (List ℕ))
gradient_in sheet y =
    if has_gradient bytes_eq (quantities sheet) y then Ok (gradient_of bytes_eq (quantities sheet) y) else Err OutOfRange

-- of quantities with these sensitivities: the variance of one, and the covariance of two (5.1.2, 5.2.2)
abbrev pub variance_in : Sheet → Spans (List ℕ) → Found Interval
variance_in sheet dy = in_range (ok_or (combined_variance_span dy (groups sheet)) (record {}))

abbrev pub covariance_in : Sheet → Spans (List ℕ) → Spans (List ℕ) → Found Interval
covariance_in sheet dy dz = in_range (ok_or (combined_covariance_span dy dz (groups sheet)) (record {}))

-- the correlation coefficient (5.2.2), from the covariance and the variances of both
abbrev pub correlation_in : Sheet → Spans (List ℕ) → Spans (List ℕ) → Found CorrSaid
correlation_in sheet dy dz =
    and_then (covariance_in sheet dy dz) (λ c. and_then (variance_in sheet dy) (λ v. and_then (variance_in sheet dz) (λ w. in_range (correlation_of c v w))))

-- the effective degrees of freedom (G.4.1)
abbrev pub degrees_in : Sheet → Spans (List ℕ) → Found Nu
degrees_in sheet dy = in_range (known_degrees_of dy (groups sheet))

-- the rule of a tolerance. Where its name is that of one, it has a rule
abbrev pub rule_by : List ℕ → Option Rule → Found Rule
rule_by t None = Err (Unknown t)
rule_by t (Some rule) = Ok rule

-- the answer for what is decided: the condition that is not settled is named
abbrev pub condition_at : ℕ → Condition
condition_at n = if n == 1 then Guarded else (if n == 2 then Inside else Near)

abbrev pub said_of : ExactDecision → SaidOfRule
said_of (Stated ExactPass) = Pass
said_of (Stated ExactConditionalPass) = ConditionalPass
said_of (Stated ExactConditionalFail) = ConditionalFail
said_of (Stated ExactFail) = Fail
said_of (UndecidedAt n) = Undecided (condition_at n)

-- the statement of conformity by the rule (ILAC-G8:09/2019, 4.2.2, 4.2.3), from the spans of the value, of the variance and
-- of the factor
abbrev pub statement_by : Rule → Interval → Interval → Interval → Found SaidOfRule
statement_by rule value v k = in_range (ok_or (option_map said_of (decision_over rule value v k)) (record {}))

-- ---- answers
-- of one quantity, by the span of its value and its sensitivities
abbrev pub answer_of_one : Sheet → List ℕ → (Interval → Spans (List ℕ) → Found Answer) → Found Answer
answer_of_one sheet y answer = and_then (value_in sheet y) (λ value. and_then (gradient_in sheet y) (λ dy. answer value dy))

-- of two, by the sensitivities of both. The values of both stand before
abbrev pub answer_of_two : Sheet → List ℕ → List ℕ → (Spans (List ℕ) → Spans (List ℕ) → Found Answer) → Found Answer
answer_of_two sheet y z answer =
    and_then (value_in sheet y) (λ first. and_then (value_in sheet z) (λ second.
    and_then (gradient_in sheet y) (λ dy. and_then (gradient_in sheet z) (λ dz. answer dy dz))))

-- with the factor in this span (6.2.1, G.4.1). The least factor is answered, which is the only one where the span settles
-- anything
abbrev pub expanded_by : List ℕ → Interval → Interval → Interval → Found Answer
expanded_by y value v k = and_then (in_range (expanded_of value v k)) (λ reported. Ok (Expanded y reported k.lo))

abbrev pub expanded_in : Sheet → List ℕ → Level → Interval → Spans (List ℕ) → Found Answer
expanded_in sheet y level value dy =
    and_then (degrees_in sheet dy) (λ nu. and_then (variance_in sheet dy) (λ v. expanded_by y value v (factor_span nu level)))

-- with a guard band of so many expanded uncertainties (6.2.1)
abbrev pub decided_in : Sheet → List ℕ → List ℕ → Level → Rule → Interval → Spans (List ℕ) → Found Answer
decided_in sheet y t level rule value dy =
    and_then (degrees_in sheet dy) (λ nu. and_then (variance_in sheet dy) (λ v.
    and_then (statement_by rule value v (factor_span nu level)) (λ said. Ok (Decision y t said))))

-- the budget of a quantity with these sensitivities (5.1.3). An input is there where the quantity depends on it
abbrev pub input_in : Sheet → Spans (List ℕ) → InputVariance → Found (List BudgetInput)
input_in sheet dy i =
    if is_some (dy i.name)
    then and_then (value_in sheet i.name) (λ value. and_then (in_range (ok_or i.variance (record {})))
    (λ v. Ok (record { name = i.name; value = value; variance = v; sens = sensitivity dy i.name } ∷ [])))
    else Ok []

abbrev pub inputs_in : Sheet → Spans (List ℕ) → Found (List BudgetInput)
inputs_in sheet dy = all_found (input_in sheet dy) (variances sheet)

-- a group is there where it depends on a member of the group
abbrev pub part_by : {K : Type 0} → Spans K → List ℕ → Group K → Found (List GroupPart)
part_by dy name g =
    if meets dy g then and_then (in_range (ok_or (group_variance_span dy g) (record {}))) (λ v. Ok (record { name = name; variance = v } ∷ [])) else Ok []

abbrev pub parts_in : Sheet → Spans (List ℕ) → Found (List GroupPart)
parts_in sheet dy = all_found (λ (g : NamedGroup). part_by dy g.name g.group) (named_groups sheet)

abbrev pub budget_in : Sheet → List ℕ → Spans (List ℕ) → Found Answer
budget_in sheet y dy =
    and_then (variance_in sheet dy) (λ v. and_then (inputs_in sheet dy) (λ inputs. and_then (parts_in sheet dy) (λ parts.
    and_then (in_range (ok_or (budget_lines inputs parts) (record {}))) (λ lines. Ok (Budget lines y v)))))

-- the answer of a sheet that has the quantities, and the rule, of the query
abbrev pub answer_in : Sheet → Query → Found Answer
answer_in sheet (AskValue y) = and_then (value_in sheet y) (λ value. Ok (Value y value))
answer_in sheet (AskVariance y) = answer_of_one sheet y (λ value dy. and_then (variance_in sheet dy) (λ v. Ok (Variance y v)))
answer_in sheet (AskCovariance y z) = answer_of_two sheet y z (λ dy dz. and_then (covariance_in sheet dy dz) (λ c. Ok (Covariance y z c)))
answer_in sheet (AskCorrelation y z) = answer_of_two sheet y z (λ dy dz. and_then (correlation_in sheet dy dz) (λ r. Ok (Correlation y z r)))
answer_in sheet (AskSensitivity y x) = answer_of_one sheet y (λ value dy. Ok (Sensitivity y x (sensitivity dy x)))
answer_in sheet (AskDegrees y) = answer_of_one sheet y (λ value dy. and_then (degrees_in sheet dy) (λ nu. Ok (Degrees y (said nu))))
answer_in sheet (AskReport y) = answer_of_one sheet y (λ value dy. and_then (variance_in sheet dy) (λ v. Ok (Report y (reported_of value v))))
answer_in sheet (AskExpanded y level) = answer_of_one sheet y (λ value dy. expanded_in sheet y level value dy)
answer_in sheet (AskDecide y t level) =
    and_then (rule_by t (rule_of sheet t)) (λ rule. answer_of_one sheet y (λ value dy. decided_in sheet y t level rule value dy))
answer_in sheet (AskBudget y) = answer_of_one sheet y (λ value dy. budget_in sheet y dy)
answer_in sheet AskDump = Ok (Dump sheet.rows)

-- ---- names
-- the first of the names in a query that is that of no result of the sheet
abbrev pub unless_there : Bool → List ℕ → Option (List ℕ) → Option (List ℕ)
unless_there there name later = if there then later else Some name

abbrev pub unknown_result : Sheet → Query → Option (List ℕ)
unknown_result sheet (AskValue y) = unless_there (has_quantity sheet y) y None
unknown_result sheet (AskVariance y) = unless_there (has_quantity sheet y) y None
unknown_result sheet (AskCovariance y z) = unless_there (has_quantity sheet y) y (unless_there (has_quantity sheet z) z None)
unknown_result sheet (AskCorrelation y z) = unless_there (has_quantity sheet y) y (unless_there (has_quantity sheet z) z None)
unknown_result sheet (AskSensitivity y x) = unless_there (has_quantity sheet y) y (unless_there (has_input sheet x) x None)
unknown_result sheet (AskDegrees y) = unless_there (has_quantity sheet y) y None
unknown_result sheet (AskReport y) = unless_there (has_quantity sheet y) y None
unknown_result sheet (AskExpanded y level) = unless_there (has_quantity sheet y) y None
unknown_result sheet (AskDecide y t level) = unless_there (has_quantity sheet y) y (unless_there (has_rule sheet t) t None)
unknown_result sheet (AskBudget y) = unless_there (has_quantity sheet y) y None
unknown_result sheet AskDump = None

-- ---- replies
abbrev pub reply_of_stop : Stop → Reply
reply_of_stop (Unknown name) = Ask (NoSuchResult name)
reply_of_stop (Faulted fault row) = Said (ValueFault fault row)
reply_of_stop OutOfRange = Said LawOverflow

abbrev pub reply_of : Found Answer → Reply
reply_of (Ok answer) = Said answer
reply_of (Err stop) = reply_of_stop stop

-- whether the names are those of results is decided first, by the sheet alone
abbrev pub reply_by : Option (List ℕ) → Found Answer → Reply
reply_by (Some name) answer = Ask (NoSuchResult name)
reply_by None answer = reply_of answer

abbrev pub reply_to : Sheet → Query → Reply
reply_to sheet query = reply_by (unknown_result sheet query) (answer_in sheet query)
